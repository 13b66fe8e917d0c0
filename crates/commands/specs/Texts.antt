-- Texts: their bytes, and the parts between separators.
use Rattle.std.specs.Prelude.{cond, List, [], ◌∷◌, ℕ, zero, suc, eqb}
use Prim.Native.String.{String, len, char_at}
use Prim.Native.Char.{code}

abbrev bytes_from : ℕ → ℕ → String → List ℕ
bytes_from zero i s = []
bytes_from (suc n) i s = code (char_at s i) ∷ bytes_from n (suc i) s

-- the bytes of a quoted text
abbrev pub bytes : String → List ℕ
bytes s = bytes_from (len s) 0 s

-- the place of the first byte b: the length where there is none
unfoldable pub index_of : ℕ → List ℕ → ℕ
index_of b [] = 0
index_of b (x ∷ l) = cond (eqb x b) 0 (suc (index_of b l))

-- a byte in front of the first part
abbrev pub in_front : ℕ → List (List ℕ) → List (List ℕ)
in_front x [] = (x ∷ []) ∷ []
in_front x (p ∷ ps) = (x ∷ p) ∷ ps

-- the parts between the bytes b, which may be empty: one more than there are such bytes
unfoldable pub parts : ℕ → List ℕ → List (List ℕ)
parts b [] = [] ∷ []
parts b (x ∷ l) = cond (eqb x b) ([] ∷ parts b l) (in_front x (parts b l))
