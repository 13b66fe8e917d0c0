-- A list that rises and its bits say the same. Assumes nothing.
use mathlib.Core.Path.{◌≡◌, refl, sym, ap, ap₂, ◌∙◌, subst}
use mathlib.Core.Logic.{⊎_elim}
use mathlib.Core.Bool.{false, ◌&&◌}
use mathlib.Core.List.{List, [], ◌∷◌, ◌++◌}
use Prim.Native.Nat.{ℕ, zero, suc, ◌+◌, ◌-◌, ◌*◌, ◌/◌, ◌%◌, ◌^◌, ◌≤◌, ◌<◌}
use native.Mathlib.Nat.{pow-suc, mul_assoc, mul_comm, add-mul, mul-one, one-mul, zero-mul, mod-lt, zero-lt-suc}
use native.Mathlib.Omega.{arith}
use lib.Dec.{T, ltb, ltb→lt, lt→ltb}
use lib.ListN.{length}
use Rattle.tasks.specs.Lists.{values, values_of, here, length_of}
use Rattle.tasks.proofs.ListLaws.{no_values_lem}
use Rattle.sheet_form.specs.Form.{Values, Each, Small, ValuesOk}
use Rattle.sheet_form.specs.Sets.{numbers, rising_from, rising, bits, list_of, last_apart}
use Rattle.arena.proofs.Tests.{T_true, and_left, and_right, lt_or_le}
use Rattle.sheet_form.proofs.Tests.{Each_snoc}

-- the bits of numbers above l, the lowest being that of l + 1
abbrev bits_from : ℕ → List ℕ → ℕ
bits_from l [] = 0
bits_from l (x ∷ xs) = 2 ^ (x - suc l) + bits_from l xs

all_bits : (xs : List ℕ) → bits xs ≡ bits_from 0 xs
all_bits [] = refl
all_bits (x ∷ xs) = ap (λ n. 2 ^ (x - 1) + n) (all_bits xs)

rising_less : (k l : ℕ) (xs : List ℕ) → k ≤ l → T (rising_from l xs) → T (rising_from k xs)
rising_less k l [] h t = tt
rising_less k l (x ∷ xs) h t =
    let g : l < x = ltb→lt l x (and_left (ltb l x) (rising_from x xs) t) in
    subst (λ b. T (b && rising_from x xs)) (sym (T_true (ltb k x) (lt→ltb k x (omega arith)))) (and_right (ltb l x) (rising_from x xs) t)

-- one place further down, each bit doubles
double : (l : ℕ) (xs : List ℕ) → T (rising_from (suc l) xs) → bits_from l xs ≡ 2 * bits_from (suc l) xs
double l [] t = refl
double l (x ∷ xs) t =
    let g : suc l < x = ltb→lt (suc l) x (and_left (ltb (suc l) x) (rising_from x xs) t) in
    let e : x - suc l ≡ suc (x - suc (suc l)) = omega arith in
    let p : 2 ^ (x - suc l) ≡ 2 ^ (x - suc (suc l)) * 2 = ap (λ (n : ℕ). 2 ^ n) e ∙ pow-suc 2 (x - suc (suc l)) in
    let i = double l xs (rising_less (suc l) x xs (omega arith) (and_right (ltb (suc l) x) (rising_from x xs) t)) in
    omega arith

-- the values of a rising list's bits are the list
values_bits : (d l : ℕ) (xs : List ℕ) → T (rising_from l xs) → Each (λ x. x ≤ l + d) xs → values d (suc l) (bits_from l xs) ≡ xs
unfolding values
values_bits d l [] t h = no_values_lem d (suc l)
values_bits zero l (x ∷ xs) t h = let z : ⊥ = omega (arith, ltb→lt l x (and_left (ltb l x) (rising_from x xs) t), h.0) in absurd z
values_bits (suc d) l (x ∷ xs) t h =
    ⊎_elim (λ g. above g (values_bits d (suc l) (x ∷ xs) (from g) (up (x ∷ xs) h))) (λ g. lowest (same g) (values_bits d (suc l) xs (subst (λ n. T (rising_from n xs)) (same g) rest) (up xs h.1))) (lt_or_le (suc l) x)
  where
    up : (ys : List ℕ) → Each (λ x. x ≤ l + suc d) ys → Each (λ x. x ≤ suc l + d) ys
    up [] e = tt
    up (y ∷ ys) e = (omega (arith, e.0), up ys e.1)

    rest : T (rising_from x xs)
    rest = and_right (ltb l x) (rising_from x xs) t

    from : suc l < x → T (rising_from (suc l) (x ∷ xs))
    from g = subst (λ b. T (b && rising_from x xs)) (sym (T_true (ltb (suc l) x) (lt→ltb (suc l) x g))) rest

    same : x ≤ suc l → x ≡ suc l
    same g = omega (arith, ltb→lt l x (and_left (ltb l x) (rising_from x xs) t))

    above : suc l < x → values d (suc (suc l)) (bits_from (suc l) (x ∷ xs)) ≡ x ∷ xs → values (suc d) (suc l) (bits_from l (x ∷ xs)) ≡ x ∷ xs
    above g i =
        let r = double l (x ∷ xs) (from g) in
        let e : bits_from l (x ∷ xs) % 2 ≡ 0 = omega arith in
        let f : bits_from l (x ∷ xs) / 2 ≡ bits_from (suc l) (x ∷ xs) = omega arith in
        ap₂ (λ b m. here b (suc l) (values d (suc (suc l)) m)) e f ∙ i

    lowest : x ≡ suc l → values d (suc (suc l)) (bits_from (suc l) xs) ≡ xs → values (suc d) (suc l) (bits_from l (x ∷ xs)) ≡ x ∷ xs
    lowest k i =
        let z : x - suc l ≡ 0 = omega arith in
        let p : 2 ^ (x - suc l) ≡ 1 = ap (λ (n : ℕ). 2 ^ n) z in
        let r = double l xs (subst (λ n. T (rising_from n xs)) k rest) in
        let e : bits_from l (x ∷ xs) % 2 ≡ 1 = omega arith in
        let f : bits_from l (x ∷ xs) / 2 ≡ bits_from (suc l) xs = omega arith in
        ap₂ (λ b m. here b (suc l) (values d (suc (suc l)) m)) e f ∙ ap₂ (λ a b. a ∷ b) (sym k) i

all_small : (l : Values) → ValuesOk l → Each Small (numbers l)
all_small l h = Each_snoc Small l.firsts l.final h.firsts h.final

-- a list that rises is kept as bits that say it
pub list_says : (l : Values) → ValuesOk l → T (rising l) → values_of (list_of l) ≡ numbers l
unfolding list_of
list_says l h t =
    rw (T_true (rising l) t) (ap values_of (all_bits (numbers l)) ∙ values_bits 16 0 (numbers l) t (most (numbers l) (all_small l h)))
  where
    most : (xs : List ℕ) → Each Small xs → Each (λ x. x ≤ 16) xs
    most [] e = tt
    most (x ∷ xs) e = (e.0.high, most xs e.1)

-- one that does not rise is kept as an empty one
pub kept_none : (l : Values) → rising l ≡ false → length_of (list_of l) ≡ 0
unfolding list_of length_of values
kept_none l e = rw e refl

-- the bits of the values of bits
here_bits : (b j : ℕ) (l : List ℕ) → b < 2 → bits (here b (suc j) l) ≡ b * 2 ^ j + bits l
here_bits zero j l h = omega arith
here_bits (suc zero) j l h = let e : suc j - 1 ≡ j = omega arith in ap (λ (n : ℕ). 2 ^ n + bits l) e ∙ ap (λ n. n + bits l) (sym (one-mul (2 ^ j)))
here_bits (suc (suc b)) j l h = let z : ⊥ = omega arith in absurd z

bits_of_values : (d j m : ℕ) → m < 2 ^ d → bits (values d (suc j) m) ≡ m * 2 ^ j
unfolding values
bits_of_values zero j m h = let e : m ≡ 0 = omega arith in sym (ap (λ (n : ℕ). n * 2 ^ j) e ∙ zero-mul (2 ^ j))
bits_of_values (suc d) j m h =
    let i = bits_of_values d (suc j) (m / 2) (omega (arith, pow-suc 2 d)) in
    let p : m / 2 * 2 ^ suc j ≡ m / 2 * 2 * 2 ^ j = ap (λ (n : ℕ). m / 2 * n) (pow-suc 2 j ∙ mul_comm (2 ^ j) 2) ∙ sym (mul_assoc (m / 2) 2 (2 ^ j)) in
    let q : m % 2 + m / 2 * 2 ≡ m = omega arith in
    here_bits (m % 2) j (values d (suc (suc j)) (m / 2)) (mod-lt m (zero-lt-suc 1))
    ∙ ap (λ n. m % 2 * 2 ^ j + n) (i ∙ p) ∙ sym (add-mul (m % 2) (m / 2 * 2) (2 ^ j)) ∙ ap (λ (n : ℕ). n * 2 ^ j) q

-- THE LAST APART

pub apart_numbers : (xs : List ℕ) → 0 < length xs → numbers (last_apart xs) ≡ xs
unfolding last_apart
apart_numbers [] h = let z : ⊥ = omega arith in absurd z
apart_numbers (x ∷ []) h = refl
apart_numbers (x ∷ y ∷ ys) h = ap (λ l. x ∷ l) (apart_numbers (y ∷ ys) (omega arith))

pub apart_snoc : (xs : List ℕ) (x : ℕ) → last_apart (xs ++ (x ∷ [])) ≡ record { firsts = xs; final = x }
unfolding last_apart
apart_snoc [] x = refl
apart_snoc (y ∷ []) x = refl
apart_snoc (y ∷ z ∷ zs) x = ap (λ (v : Values). record { firsts = y ∷ v.firsts; final = v.final }) (apart_snoc (z ∷ zs) x)

-- a list that rises comes back from its bits
pub list_back : (l : Values) → ValuesOk l → T (rising l) → last_apart (values_of (list_of l)) ≡ l
list_back l h t = ap last_apart (list_says l h t) ∙ apart_snoc l.firsts l.final

here_rises : (b l k : ℕ) (r : List ℕ) → l < k → T (rising_from k r) → T (rising_from l r) → T (rising_from l (here b k r))
here_rises zero l k r h p q = q
here_rises (suc b) l k r h p q = subst (λ c. T (c && rising_from k r)) (sym (T_true (ltb l k) (lt→ltb l k h))) p

values_rise : (d l k m : ℕ) → l < k → T (rising_from l (values d k m))
unfolding values
values_rise zero l k m h = tt
values_rise (suc d) l k m h = here_rises (m % 2) l k (values d (suc k) (m / 2)) h (values_rise d k (suc k) (m / 2) (omega arith)) (values_rise d l (suc k) (m / 2) (omega arith))

here_small : (b k : ℕ) (r : List ℕ) → Small k → Each Small r → Each Small (here b k r)
here_small zero k r h e = e
here_small (suc b) k r h e = (h, e)

values_small : (d k m : ℕ) → 1 ≤ k → k + d ≤ 17 → Each Small (values d k m)
unfolding values
values_small zero k m h g = tt
values_small (suc d) k m h g = here_small (m % 2) k _ (record { low = h; high = omega arith }) (values_small d (suc k) (m / 2) (omega arith) (omega arith))

parts_small : (xs : List ℕ) (x : ℕ) → Each Small (xs ++ (x ∷ [])) → ValuesOk (record { firsts = xs; final = x })
parts_small [] x h = record { firsts = tt; final = h.0 }
parts_small (y ∷ xs) x h = let r = parts_small xs x h.1 in record { firsts = (h.0, r.firsts); final = r.final }

-- the list that bits say, where they say one: it has the form of a list, it rises, and it is kept as those bits
pub record Said (m : ℕ) (l : Values) : Type 0 where
  pub ok : ValuesOk l
  pub rises : T (rising l)
  pub kept : m < 65536 → list_of l ≡ m

pub bits_said : (m : ℕ) → 0 < length_of m → Said m (last_apart (values_of m))
unfolding length_of list_of
bits_said m p =
    let l = last_apart (values_of m) in
    let w : numbers l ≡ values_of m = apart_numbers (values_of m) p in
    let r : T (rising l) = subst (λ xs. T (rising_from 0 xs)) (sym w) (values_rise 16 0 1 m (omega arith)) in
    record {
      ok = parts_small l.firsts l.final (subst (Each Small) (sym w) (values_small 16 1 m (omega arith) (omega arith)));
      rises = r;
      kept = λ h. rw (T_true (rising l) r) (ap bits w ∙ bits_of_values 16 0 m h ∙ mul-one m);
    }
