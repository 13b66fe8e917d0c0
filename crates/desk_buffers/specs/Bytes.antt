-- Bytes of a buffer: filled, put in, and summed.
use Rattle.std.specs.Prelude.{◌≡◌, ℕ, zero, suc, ◌+◌, ◌*◌, ◌%◌, ◌≤◌, cond, List, [], ◌∷◌, length, take, drop, nat_le, slice_set}
use Rattle.std.proofs.lemmas.List.Edits.{sets}
use Rattle.commands.specs.Words.{byte_at}

-- a text has so many first bytes
abbrev pub IsPrefixLen : ℕ → List ℕ → Type 0
IsPrefixLen n xs = (n ≤ length xs) × (n ≡ length (take n xs))

-- the k bytes from place i on become v; a place beyond the buffer has no byte
unfoldable pub filled : ℕ → ℕ → ℕ → List ℕ → List ℕ
filled zero i v l = l
filled (suc k) i v l = filled k (i + 1) v (slice_set l i v)

-- bytes go to a buffer from place i on
abbrev pub put_at : ℕ → List ℕ → List ℕ → List ℕ
put_at i p l = sets l i p

-- the k bytes that a word says from its byte i on
unfoldable pub said : List ℕ → ℕ → ℕ → List ℕ
said w zero i = []
said w (suc k) i = byte_at w i ∷ said w k (i + 1)

-- what both halves of the Adler-32 sum stay below
abbrev pub modulus : ℕ
modulus = 65521

-- the Adler-32 sum: for each byte, in order, a becomes (a + byte) mod 65,521 and then b becomes (b + a) mod 65,521
unfoldable pub adler_from : ℕ → ℕ → List ℕ → ℕ
adler_from a b [] = b * 65536 + a
adler_from a b (x ∷ l) = adler_from ((a + x) % modulus) ((b + (a + x) % modulus) % modulus) l

abbrev pub adler_of : List ℕ → ℕ
adler_of l = adler_from 1 0 l

-- n bytes from a place on; none where the buffer has fewer
abbrev pub part_of : ℕ → ℕ → List ℕ → List ℕ
part_of i n l = cond (nat_le (i + n) (length l)) (take n (drop i l)) []
