-- A number less its last digits, and how many digits are left. Assumes nothing.
use Rattle.std.proofs.Common.{◌≡◌, ℕ, ◌+◌, ◌-◌, ◌*◌, ◌/◌, ◌^◌, ◌<◌, ◌≤◌, sym, ap, ◌∙◌, subst, arith, add-one}
use native.Mathlib.Nat.{le_of_suc-le-suc, pow-suc, one-le-pow, pow-le-pow_right, div-div-eq-div-mul, le-div_iff_mul-le, div-lt_iff_lt-mul, lt_of_not-le}

-- n takes k digits in base b, when padded to `width` digits
abbrev pub IsDigitCount : ℕ → ℕ → ℕ → ℕ → Type 0
IsDigitCount b width n k = (width ≤ k) × (n < b ^ k) × (width < k → b ^ (k - 1) ≤ n)

pub div-pow-div : (n b k : ℕ) → n / b ^ k / b ≡ n / b ^ (k + 1)
div-pow-div n b k = div-div-eq-div-mul n (b ^ k) b ∙ ap (λ (d : ℕ). n / d) (sym (pow-suc b k) ∙ ap (λ (j : ℕ). b ^ j) (sym (add-one k)))

-- something is left of n after k digits, so one more is wanted
pub pow-le_of_div_pos : (n b k : ℕ) → 0 < b → 0 < n / b ^ k → b ^ (k + 1 - 1) ≤ n
pow-le_of_div_pos n b k h some =
    let e : k ≡ k + 1 - 1 = omega arith in
    let p : 1 * b ^ k ≤ n = (le-div_iff_mul-le (one-le-pow k b h)).0 some in
    subst (λ (j : ℕ). b ^ j ≤ n) e (omega arith)

-- nothing is left of n after k digits, so k digits hold it
pub lt-pow_of_div-zero : (n b k : ℕ) → 0 < b → n / b ^ k < 1 → n < b ^ k
lt-pow_of_div-zero n b k h none =
    let p : n < 1 * b ^ k = (div-lt_iff_lt-mul (one-le-pow k b h)).0 none in
    omega arith

digit_count_not_above : (b width n k most : ℕ) → 0 < b → IsDigitCount b width n k → width ≤ most → n < b ^ most → most < k → ⊥
digit_count_not_above b width n k most h fewest within holds over =
    let p : b ^ (k - 1) ≤ n = fewest.2 (omega arith) in
    let q : b ^ most ≤ b ^ (k - 1) = pow-le-pow_right h (omega arith) in
    omega arith

-- where `most` digits hold n, the fewest are no more
pub digit_count_le : (b width n k most : ℕ) → 0 < b → IsDigitCount b width n k → width ≤ most → n < b ^ most → k ≤ most
digit_count_le b width n k most h fewest within holds = le_of_suc-le-suc (lt_of_not-le (digit_count_not_above b width n k most h fewest within holds))
