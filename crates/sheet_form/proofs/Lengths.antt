-- The length of a sheet. Assumes nothing.
use mathlib.Core.Path.{◌≡◌, refl, sym, ap, ap₂, ◌∙◌, subst}
use mathlib.Core.Bool.{Bool, true, false}
use mathlib.Core.List.{List, [], ◌∷◌, ◌++◌, map, append-nil}
use Prim.Native.Nat.{ℕ, zero, suc, ◌+◌, ◌-◌, ◌*◌, ◌/◌, ◌%◌, ◌^◌, ◌≤◌, ◌<◌}
use native.Mathlib.Nat.{div-one}
use native.Mathlib.Omega.{arith}
use lib.Dec.{eqb, ltb}
use lib.ListN.{length, take, length-append}
use lib.Pow.{shr-shr}
use Rattle.tasks.specs.declared.sets.Task.{Task}
use Rattle.tasks.specs.declared.sets.Set.{Set}
use Rattle.tasks.specs.Lists.{values, values_of, here, last_or, longest_of, length_of}
use Rattle.tasks.specs.Sets.{characters}
use Rattle.tasks.proofs.ListLaws.{longest_le}
use Rattle.sheet_form.specs.Form.{Values, each, Each, space, lf, decimal, with_comma, values_text, kind_text, line_text, set_text, longest}
use Rattle.sheet_form.specs.Sets.{last_apart, line_of, text_of}
use Rattle.arena.proofs.Tests.{by_cond}
use Rattle.sheet_form.proofs.Bits.{apart_snoc}
use Rattle.tasks.specs.Valid.{ValidTask, Valid}
use Rattle.sheet_form.proofs.Valid.{name_ok, task_count, tasks_ok}

pub decimal_length : (v : ℕ) → length (decimal v) ≤ 2
unfolding decimal
decimal_length v = by_cond (λ (l : List ℕ). length l ≤ 2) (ltb v 10) _ _ (λ t. omega arith) (λ t. omega arith)

pub kind_length : (b : Bool) → length (kind_text b) ≡ 5
kind_length true = refl
kind_length false = refl

-- THE VALUES OF BITS, LOWEST FIRST

here_append : (b k : ℕ) (l r : List ℕ) → here b k (l ++ r) ≡ here b k l ++ r
here_append zero k l r = refl
here_append (suc b) k l r = refl

-- one bit more is looked at: the last value may join
pub values_snoc : (d k m : ℕ) → values (suc d) k m ≡ values d k m ++ here (m / 2 ^ d % 2) (k + d) []
unfolding values
values_snoc zero k m =
    let e : m % 2 ≡ m / 1 % 2 = ap (λ x. x % 2) (sym (div-one m)) in
    let g : k ≡ k + 0 = omega arith in
    ap₂ (λ x y. here x y []) e g
values_snoc (suc d) k m =
    let e : m / 2 / 2 ^ d ≡ m / 2 ^ suc d = shr-shr m 1 d ∙ ap (λ n. m / 2 ^ n) (omega arith) in
    let g : suc k + d ≡ k + suc d = omega arith in
    ap (here (m % 2) k) (values_snoc d (suc k) (m / 2) ∙ ap₂ (λ x y. values d (suc k) (m / 2) ++ here (x % 2) y []) e g)
    ∙ here_append (m % 2) k (values d (suc k) (m / 2)) (here (m / 2 ^ suc d % 2) (k + suc d) [])

here_length : (b k : ℕ) (l : List ℕ) (n : ℕ) → length (each with_comma l) ≤ 3 * n → length (each with_comma (here b k l)) ≤ 3 * suc n
here_length zero k l n h = omega arith
here_length (suc b) k l n h = omega (arith, length-append (with_comma k) (each with_comma l), length-append (decimal k) (44 ∷ []), decimal_length k)

pub firsts_length : (d k m : ℕ) → length (each with_comma (values d k m)) ≤ 3 * d
unfolding values
firsts_length zero k m = omega arith
firsts_length (suc d) k m = here_length (m % 2) k (values d (suc k) (m / 2)) d (firsts_length d (suc k) (m / 2))

pub last_snoc : (e : ℕ) (xs : List ℕ) (x : ℕ) → last_or e (xs ++ (x ∷ [])) ≡ x
last_snoc e [] x = refl
last_snoc e (y ∷ xs) x = last_snoc y xs x

-- a list is what stands below its longest value, and that value
record Topped (l : List ℕ) (m : ℕ) : Type 0 where
  low : 1 ≤ last_or 0 l
  parts : l ≡ values (last_or 0 l - 1) 1 m ++ (last_or 0 l ∷ [])

topped : (n m : ℕ) → 0 < length (values n 1 m) → Topped (values n 1 m) m
unfolding values
topped zero m h = let z : ⊥ = omega arith in absurd z
topped (suc n) m h = go (m / 2 ^ n % 2) refl (topped n m)
  where
    go : (b : ℕ) → m / 2 ^ n % 2 ≡ b → (0 < length (values n 1 m) → Topped (values n 1 m) m) → Topped (values (suc n) 1 m) m
    go zero e r =
        let g : values (suc n) 1 m ≡ values n 1 m = values_snoc n 1 m ∙ ap (λ x. values n 1 m ++ here x (1 + n) []) e ∙ append-nil (values n 1 m) in
        subst (λ l. Topped l m) (sym g) (r (subst (λ l. 0 < length l) g h))
    go (suc b) e r =
        let g : values (suc n) 1 m ≡ values n 1 m ++ ((1 + n) ∷ []) = values_snoc n 1 m ∙ ap (λ x. values n 1 m ++ here x (1 + n) []) e in
        let f : 1 + n - 1 ≡ n = omega arith in
        subst (λ l. Topped l m) (sym g)
        (record { low = rw last_snoc (omega arith); parts = rw (last_snoc, f) refl })

-- the text of a list: the values below the longest with their commas, and the longest
pub top_text : (m : ℕ) → 0 < length_of m → each with_comma (values (longest_of m - 1) 1 m) ++ decimal (longest_of m) ≡ values_text (last_apart (values_of m))
unfolding values_text longest_of length_of
top_text m p =
    let k = topped 16 m p in
    ap (λ (v : Values). each with_comma v.firsts ++ decimal v.final) (sym (ap last_apart k.parts ∙ apart_snoc (values (longest_of m - 1) 1 m) (longest_of m)))

pub list_length : (m : ℕ) → 0 < length_of m → length (values_text (last_apart (values_of m))) ≤ 47
list_length m p =
    let t = longest_of m in
    omega (arith, ap length (top_text m p), length-append (each with_comma (values (t - 1) 1 m)) (decimal t), firsts_length (t - 1) 1 m, decimal_length t, longest_le m)

pub line_length : (τ : Task) → ValidTask τ → length (line_text (line_of τ)) ≤ 106
unfolding line_text
line_length τ h =
    let k = kind_text (eqb τ.kind 1) in let d = decimal τ.deadline in let r = values_text (last_apart (values_of τ.runs)) in let g = values_text (last_apart (values_of τ.gaps)) in
    omega (
      arith,
      length-append (k ++ d ++ space ++ r ++ space ++ g) lf,
      length-append (k ++ d ++ space ++ r ++ space) g,
      length-append (k ++ d ++ space ++ r) space,
      length-append (k ++ d ++ space) r,
      length-append (k ++ d) space,
      length-append k d,
      kind_length (eqb τ.kind 1),
      decimal_length τ.deadline,
      list_length τ.runs h.runs,
      list_length τ.gaps h.gaps,
    )

pub lines_length : (ts : List Task) → Each ValidTask ts → length (each line_text (map line_of ts)) ≤ 106 * length ts
lines_length [] h = omega arith
lines_length (τ ∷ ts) h = omega (arith, length-append (line_text (line_of τ)) (each line_text (map line_of ts)), line_length τ h.0, lines_length ts h.1)

pub head_length : (name : List ℕ) → length (set_text ++ name ++ lf) ≡ 5 + length name
head_length name = omega (arith, length-append (set_text ++ name) lf, length-append set_text name)

-- every valid set's sheet is at most 1,024 bytes long
pub sheet_short : (s : Set) → length s.name ≡ 16 → Valid s → length (text_of s) ≤ longest
sheet_short s l v =
    let n = take (characters s.name) s.name in
    let ts = take s.count s.tasks in
    omega (arith, length-append (set_text ++ n ++ lf) (each line_text (map line_of ts)), head_length n, (name_ok s.name v.name l).high, lines_length ts (tasks_ok s v), task_count s v, v.count.1)
