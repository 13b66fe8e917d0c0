-- A number in base ten, and how many digits it has. Assumes nothing.
use mathlib.Core.Path.{◌≡◌, ap, ◌∙◌, subst}
use mathlib.Core.Bool.{Bool, true, cond}
use mathlib.Core.List.{List, [], ◌∷◌, ◌++◌}
use Prim.Native.Nat.{ℕ, zero, suc, ◌+◌, ◌*◌, ◌/◌, ◌%◌, ◌^◌, ◌≤◌, ◌<◌}
use native.Mathlib.Nat.{pow-suc, zero-lt-suc, div-lt_iff_lt-mul}
use native.Mathlib.Omega.{arith}
use lib.Dec.{ltb}
use lib.ListN.{length, length-append}
use borrow.Author.Tests.{lt-ltb, le-ltb}
use Rattle.std.specs.Fmt.{decimal}
use Rattle.std.proofs.lemmas.Fmt.{decimal_by_steps}
use Rattle.arena.proofs.Tests.{by_cond}
use Rattle.report_lines.specs.Lines.{digits_to, number_text, field}

-- where a test holds, the first of the two
first_of : (b : Bool) (x y : List ℕ) → b ≡ true → cond b x y ≡ x
first_of b x y e = ap (λ b. cond b x y) e

-- a number below 10 is its digit, and any other is that of its tens and its last digit
digits_one : (k n : ℕ) → n < 10 → digits_to (suc k) n ≡ (48 + n) ∷ []
unfolding digits_to
digits_one k n h = first_of (ltb n 10) _ _ (lt-ltb n 10 h)

digits_more : (k n : ℕ) → 10 ≤ n → digits_to (suc k) n ≡ digits_to k (n / 10) ++ ((48 + n % 10) ∷ [])
unfolding digits_to
digits_more k n h = ap (λ b. cond b ((48 + n) ∷ []) (digits_to k (n / 10) ++ ((48 + n % 10) ∷ []))) (le-ltb n 10 h)

-- the ASCII code of a digit below 16: `0` to `9`, then `a` to `f`
abbrev pub hex_digit_ascii : ℕ → ℕ
hex_digit_ascii d = cond (ltb d 10) (48 + d) (87 + d)

pub glyph_digit : (d : ℕ) → d < 10 → hex_digit_ascii d ≡ 48 + d
glyph_digit d h = ap (λ b. cond b (48 + d) (87 + d)) (lt-ltb d 10 h)

-- what the library writes for a number is its text, however many digits are allowed beyond those
digits_decimal : (n : ℕ) → n < 2 ^ 64 → (k : ℕ) → n < k → digits_to k n ≡ decimal n
digits_decimal = decimal_by_steps (λ n ds. (k : ℕ) → n < k → digits_to k n ≡ ds) one more
  where
    one : (n : ℕ) → n < 10 → (k : ℕ) → n < k → digits_to k n ≡ (48 + n) ∷ []
    one n h zero l = absurd (omega arith)
    one n h (suc k) l = digits_one k n h

    more : (n : ℕ) (ds : List ℕ) → 10 ≤ n → ((k : ℕ) → n / 10 < k → digits_to k (n / 10) ≡ ds) → (k : ℕ) → n < k → digits_to k n ≡ ds ++ ((48 + n % 10) ∷ [])
    more n ds h i zero l = absurd (omega arith)
    more n ds h i (suc k) l = digits_more k n h ∙ ap (λ l. l ++ ((48 + n % 10) ∷ [])) (i k (omega arith))

pub number_decimal : (n : ℕ) → n < 2 ^ 64 → number_text n ≡ decimal n
unfolding number_text
number_decimal n h = digits_decimal n h (suc n) (omega arith)

-- a number below 10 ^ (k + 1) has at most k + 1 digits
digits_length : (k j n : ℕ) → n < 10 ^ suc k → length (digits_to j n) ≤ suc k
unfolding digits_to
digits_length k zero n h = omega arith
digits_length zero (suc j) n h = rw (lt-ltb n 10 h) (omega arith)
digits_length (suc k) (suc j) n h =
    let u : n < 10 ^ suc k * 10 = subst (λ (m : ℕ). n < m) (pow-suc 10 (suc k)) h in
    let d = digits_length k j (n / 10) ((div-lt_iff_lt-mul (zero-lt-suc 9)).1 u) in
    by_cond (λ (l : List ℕ). length l ≤ suc (suc k)) (ltb n 10) _ _ (λ t. omega arith)
    (λ t. omega (arith, length-append (digits_to j (n / 10)) ((48 + n % 10) ∷ [])))

pub number_length : (k n : ℕ) → n < 10 ^ suc k → length (number_text n) ≤ suc k
unfolding number_text
number_length k n h = digits_length k (suc n) n h

pub field_length : (w : List ℕ) (k n : ℕ) → n < 10 ^ suc k → length (field w n) ≤ length w + suc k
unfolding field
field_length w k n h = omega (arith, length-append w (number_text n), number_length k n h)
