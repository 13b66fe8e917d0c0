-- The forms of words: numbers and bytes.
use Rattle.std.specs.Bool.{then_some}
use Rattle.std.specs.Prelude.{Bool, true, false, not, ◌&&◌, cond, List, [], ◌∷◌, ℕ, ◌+◌, ◌-◌, ◌*◌, ◌/◌, ◌%◌, eqb, leb, ltb, length, get_or, Option, Some, None, is_some}

module _ {A : Type 0} where
  -- a test passes at each element
  abbrev pub each : (A → Bool) → List A → Bool
  each f [] = true
  each f (x ∷ l) = f x && each f l

-- at least lo, and below end
abbrev pub within : ℕ → ℕ → ℕ → Bool
within lo end v = leb lo v && ltb v end

-- NUMBERS

-- a decimal digit, 0 to 9
unfoldable pub digit : ℕ → Bool
digit b = leb 48 b && leb b 57

-- at least one byte, and no leading zero but in 0 itself
unfoldable pub well_begun : List ℕ → Bool
well_begun [] = false
well_begun (b ∷ []) = true
well_begun (b ∷ c ∷ l) = not (eqb b 48)

-- decimal digits without sign and without leading zeros
unfoldable pub is_number : List ℕ → Bool
is_number w = well_begun w && each digit w

-- the number that digits say behind those of v
unfoldable pub decimal_from : ℕ → List ℕ → ℕ
decimal_from v [] = v
decimal_from v (b ∷ l) = decimal_from (v * 10 + (b - 48)) l

abbrev pub decimal : List ℕ → ℕ
decimal w = decimal_from 0 w

-- the number that a word says, in its range
unfoldable pub number_in : ℕ → ℕ → List ℕ → Option ℕ
number_in lo end w = then_some (is_number w && within lo end (decimal w)) (decimal w)

-- BYTES

-- the value of a hexadecimal digit, 0 to 9 and a to f (no capitals)
unfoldable pub hex_digit : ℕ → Option ℕ
hex_digit b = cond (digit b) (Some (b - 48)) (cond (leb 97 b && leb b 102) (Some (b - 87)) None)

abbrev pub is_hex : ℕ → Bool
is_hex b = is_some (hex_digit b)

-- an even number of hexadecimal digits
unfoldable pub is_bytes : List ℕ → Bool
is_bytes w = each is_hex w && eqb (length w % 2) 0

-- how many bytes a word says, in its range
unfoldable pub bytes_in : ℕ → ℕ → List ℕ → Option ℕ
bytes_in lo end w = then_some (is_bytes w && within lo end (length w / 2)) (length w / 2)

-- the high digit first; 0 where one is no digit
abbrev pub byte_of : Option ℕ → Option ℕ → ℕ
byte_of None low = 0
byte_of (Some high) None = 0
byte_of (Some high) (Some low) = high * 16 + low

-- two digits a byte: byte k of a word, 0 beyond its last
unfoldable pub byte_at : List ℕ → ℕ → ℕ
byte_at w k = byte_of (hex_digit (get_or w (2 * k) 0)) (hex_digit (get_or w (2 * k + 1) 0))
