-- Laws of numbers and bytes.
use mathlib.Core.Bool.{Bool, true, false, not, ◌&&◌, and-false}
use mathlib.Core.List.{List, [], ◌∷◌}
use mathlib.Core.Path.{◌≡◌, refl}
use Prim.Native.Nat.{ℕ, ◌+◌, ◌-◌, ◌*◌, ◌/◌, ◌%◌, ◌<◌, ◌≤◌}
use native.Mathlib.Numerals.{add-one}
use native.Mathlib.Omega.{arith}
use borrow.Author.Tests.{eq-eqb, lt-ltb, le-ltb, le-leb, lt-leb, leb-true}
use lib.Dec.{eqb, leb}
use lib.ListN.{length, drop, get_or, drop_of_length-le, get_or-eq_default}
use lib.Seq.{drop-cons}
use Rattle.std.specs.Prelude.{Option, Some, None}
use Rattle.std.proofs.lemmas.List.Recursion.{and_is}
use Rattle.commands.specs.Words.{each, digit, well_begun, is_number, decimal_from, decimal, number_in, hex_digit, is_hex, is_bytes, bytes_in, byte_of, byte_at}

-- a test at each byte from a place on
module _ (f : ℕ → Bool) (l : List ℕ) (i : ℕ) where
  pub each_fails : i < length l → f (get_or l i 0) ≡ false → each f (drop i l) ≡ false
  each_fails h e = rw (drop-cons l i 0 h) (simp e)

  pub each_next : i < length l → f (get_or l i 0) ≡ true → each f (drop i l) ≡ each f (drop (i + 1) l)
  each_next h e = rw (add-one, drop-cons l i 0 h) (simp e)

  pub each_end : length l ≤ i → each f (drop i l) ≡ true
  each_end h = rw (drop_of_length-le l {i = i} h)

-- r is what `all` answers
pub each_is : (f : ℕ → Bool) (l : List ℕ) (r : Bool) → (r ≡ true → (i : ℕ) → i < length l → f (get_or l i 0) ≡ true) → (r ≡ false → (i : ℕ) × (i < length l) × (f (get_or l i 0) ≡ false)) → r ≡ each f l
each_is f l r = and_is (each f) f refl (λ _ _. refl) l 0 r

-- NUMBERS

pub begun_none : (w : List ℕ) → length w ≡ 0 → well_begun w ≡ false
unfolding well_begun
begun_none [] h = refl
begun_none (b ∷ w) h = let z : ⊥ = omega arith in absurd z

pub begun_one : (w : List ℕ) → length w ≡ 1 → well_begun w ≡ true
unfolding well_begun
begun_one [] h = let z : ⊥ = omega arith in absurd z
begun_one (b ∷ []) h = refl
begun_one (b ∷ d ∷ w) h = let z : ⊥ = omega arith in absurd z

pub begun_more : (w : List ℕ) → (length w ≡ 0 → ⊥) → (length w ≡ 1 → ⊥) → well_begun w ≡ not (eqb (get_or w 0 0) 48)
unfolding well_begun
begun_more [] h n = absurd (h refl)
begun_more (b ∷ []) h n = absurd (n refl)
begun_more (b ∷ d ∷ w) h n = refl

pub decimal_next : (w : List ℕ) (i v : ℕ) → i < length w → decimal_from v (drop i w) ≡ decimal_from (v * 10 + (get_or w i 0 - 48)) (drop (i + 1) w)
unfolding decimal_from
decimal_next w i v h = rw (add-one, drop-cons w i 0 h)

pub decimal_end : (w : List ℕ) (i v : ℕ) → length w ≤ i → decimal_from v (drop i w) ≡ v
unfolding decimal_from
decimal_end w i v h = rw (drop_of_length-le w {i = i} h)

-- a number only grows with its digits
pub decimal_grows : (l : List ℕ) (v : ℕ) → v ≤ decimal_from v l
unfolding decimal_from
decimal_grows [] v = omega arith
decimal_grows (b ∷ l) v = omega (arith, decimal_grows l (v * 10 + (b - 48)))

module _ (lo end : ℕ) (w : List ℕ) where
  pub number_begun : well_begun w ≡ false → number_in lo end w ≡ None
  unfolding number_in is_number
  number_begun h = simp h

  pub number_digits : each digit w ≡ false → number_in lo end w ≡ None
  unfolding number_in is_number
  number_digits h = simp (h, and-false)

  pub number_low : decimal w < lo → number_in lo end w ≡ None
  unfolding number_in
  number_low h = simp (lt-leb _ _ h, and-false)

  pub number_high : end ≤ decimal w → number_in lo end w ≡ None
  unfolding number_in
  number_high h = simp (le-ltb _ _ h, and-false)

  pub number_taken : (v : ℕ) → well_begun w ≡ true → each digit w ≡ true → decimal w ≡ v → lo ≤ v → v < end → number_in lo end w ≡ Some v
  unfolding number_in is_number
  number_taken v b d e l h = simp (b, d, e, le-leb _ _ l, lt-ltb _ _ h)

-- BYTES

module _ (lo end : ℕ) (w : List ℕ) where
  pub bytes_digits : each is_hex w ≡ false → bytes_in lo end w ≡ None
  unfolding bytes_in is_bytes
  bytes_digits h = simp h

  pub bytes_odd : length w % 2 ≡ 1 → bytes_in lo end w ≡ None
  unfolding bytes_in is_bytes
  bytes_odd h = simp (h, and-false)

  pub bytes_low : length w / 2 < lo → bytes_in lo end w ≡ None
  unfolding bytes_in
  bytes_low h = simp (lt-leb _ _ h, and-false)

  pub bytes_high : end ≤ length w / 2 → bytes_in lo end w ≡ None
  unfolding bytes_in
  bytes_high h = simp (le-ltb _ _ h, and-false)

  pub bytes_taken : each is_hex w ≡ true → (length w % 2 ≡ 1 → ⊥) → lo ≤ length w / 2 → length w / 2 < end → bytes_in lo end w ≡ Some (length w / 2)
  unfolding bytes_in is_bytes
  bytes_taken d n l h =
      let e : length w % 2 ≡ 0 = omega arith in
      simp (d, eq-eqb _ _ e, le-leb _ _ l, lt-ltb _ _ h)

byte_low : (high : Option ℕ) → byte_of high None ≡ 0
byte_low None = refl
byte_low (Some v) = refl

pub byte_beyond : (w : List ℕ) (k : ℕ) → length w / 2 ≤ k → byte_at w k ≡ 0
unfolding byte_at hex_digit digit
byte_beyond w k h =
    let b : length w ≤ 2 * k + 1 = omega arith in
    rw (get_or-eq_default w 0 {n = 2 * k + 1} b) (byte_low _)

pub digit_low : (b : ℕ) → digit b ≡ true → 48 ≤ b
unfolding digit
digit_low b h = step (leb 48 b) refl h
  where
    step : (t : Bool) → leb 48 b ≡ t → (t && leb b 57) ≡ true → 48 ≤ b
    step true e g = leb-true _ _ e
    step false e g = let z : ◌≡◌ {A = ℕ} 0 1 = cc in let w : ⊥ = omega arith in absurd w
