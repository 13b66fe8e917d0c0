-- The parts of a sheet, one more each. Assumes nothing.
use mathlib.Core.Path.{◌≡◌, refl, sym, ap, ap₂, ◌∙◌}
use mathlib.Core.Bool.{true, false, ◌&&◌, cond}
use mathlib.Core.List.{List, [], ◌++◌, append-nil, map, map-append}
use Prim.Native.Nat.{ℕ, zero, suc, ◌+◌, ◌-◌, ◌/◌, ◌%◌, ◌^◌, ◌≤◌, ◌<◌}
use native.Mathlib.Nat.{mod-lt, zero-lt-suc}
use native.Mathlib.Numerals.{add-one, one-add}
use native.Mathlib.Omega.{arith}
use lib.Dec.{eqb}
use lib.ListN.{length, take, get_or, length-take}
use lib.Seq.{take-suc, get_or-take}
use borrow.Author.Tests.{lt-ltb}
use Rattle.tasks.specs.declared.sets.Task.{Task}
use Rattle.tasks.specs.declared.sets.Set.{Set}
use Rattle.tasks.specs.Lists.{width, values, here, listed}
use Rattle.tasks.specs.Sets.{no_task, task_at}
use Rattle.tasks.specs.Valid.{Valid}
use Rattle.sheet_form.specs.Form.{each, with_comma, line_text}
use Rattle.sheet_form.specs.Sets.{line_of}
use Rattle.sheet_form.proofs.Tests.{each_append, each_snoc}
use Rattle.sheet_form.proofs.Lengths.{values_snoc}
use Rattle.sheet_writer.specs.Page.{value_text}

pub value_none : (m v : ℕ) → listed m v ≡ false → [] ≡ value_text m v
unfolding value_text
value_none m v e = sym (ap (λ b. cond b (with_comma v) []) e)

pub value_some : (m v : ℕ) → listed m v ≡ true → with_comma v ≡ value_text m v
unfolding value_text
value_some m v e = sym (ap (λ b. cond b (with_comma v) []) e)

-- the values of a list, one more looked at
value_here : (b n m : ℕ) → b < 2 → n < width → m / 2 ^ n % 2 ≡ b → each with_comma (here b (1 + n) []) ≡ value_text m (suc n)
unfolding value_text listed
value_here zero n m h k e = sym (ap₂ (λ c x. cond (c && eqb x 1) (with_comma (suc n)) []) (lt-ltb n width k) e)
value_here (suc zero) n m h k e =
    append-nil (with_comma (1 + n)) ∙ ap with_comma (one-add n) ∙ sym (ap₂ (λ c x. cond (c && eqb x 1) (with_comma (suc n)) []) (lt-ltb n width k) e)
value_here (suc (suc b)) n m h k e = let z : ⊥ = omega arith in absurd z

pub value_more : (m v : ℕ) → 1 ≤ v → v ≤ width → each with_comma (values (v - 1) 1 m) ++ value_text m v ≡ each with_comma (values (v + 1 - 1) 1 m)
value_more m zero h k = let z : ⊥ = omega arith in absurd z
value_more m (suc n) h k =
    let e : suc n - 1 ≡ n = omega arith in
    let g : suc n + 1 - 1 ≡ suc n = omega arith in
    ap (λ x. each with_comma (values x 1 m) ++ value_text m (suc n)) e
    ∙ ap (λ l. each with_comma (values n 1 m) ++ l) (sym (value_here (m / 2 ^ n % 2) n m (mod-lt (m / 2 ^ n) (zero-lt-suc 1)) k refl))
    ∙ sym (each_append with_comma (values n 1 m) (here (m / 2 ^ n % 2) (1 + n) [])) ∙ ap (each with_comma) (sym (values_snoc n 1 m))
    ∙ ap (λ x. each with_comma (values x 1 m)) (sym g)

-- the lines of tasks, one more
pub line_more : (ts : List Task) (i : ℕ) → i < length ts
    → each line_text (map line_of (take i ts)) ++ line_text (line_of (get_or ts i no_task)) ≡ each line_text (map line_of (take (i + 1) ts))
line_more ts i h = sym (rw (add-one, take-suc ts i no_task h, map-append, each_snoc) refl)

-- a valid set has a record for each of its tasks
module _ (s : Set) (v : Valid s) (n i : ℕ) (e : n ≡ s.count) (h : i < length (take n s.tasks)) where
  pub inside : (i < s.count) × (i < length s.tasks)
  inside = (omega (arith, length-take n s.tasks), omega (arith, length-take n s.tasks))

  pub its_task : get_or (take n s.tasks) i no_task ≡ task_at s i
  its_task = get_or-take n s.tasks i no_task (omega (arith, length-take n s.tasks))
