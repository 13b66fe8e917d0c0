-- The report's lines, byte by byte.
use Rattle.std.specs.Prelude.{cond, List, [], ◌∷◌, ◌++◌, ℕ, zero, suc, ◌+◌, ◌*◌, ◌/◌, ◌%◌, leb, ltb, take, drop}
use Rattle.tasks.specs.declared.sets.Set.{Set}
use Rattle.tasks.specs.Sets.{characters}
use Rattle.texts.specs.Texts.{bytes}
use Rattle.sheet_form.specs.Form.{each}

-- the last digits of a number in base ten, at most k of them, without leading zeros
unfoldable pub digits_to : ℕ → ℕ → List ℕ
digits_to zero n = []
digits_to (suc k) n = cond (ltb n 10) ((48 + n) ∷ []) (digits_to k (n / 10) ++ ((48 + n % 10) ∷ []))

-- a number in base ten: n has no more than n + 1 digits
unfoldable pub number_text : ℕ → List ℕ
number_text n = digits_to (suc n) n

-- a word, and a number after it
unfoldable pub field : List ℕ → ℕ → List ℕ
field word n = word ++ number_text n

-- set line: name, tasks, states
unfoldable pub set_line : Set → ℕ → List ℕ
set_line s S =
    bytes "set " ++ take (characters s.name) s.name ++ field (bytes " tasks ") s.count ++ field (bytes " states ") S ++ bytes "\n"

-- shield line: safe states, R, start's entry
unfoldable pub shield_line : ℕ → ℕ → ℕ → List ℕ
shield_line safe rounds start =
    field (bytes "shield ") safe ++ field (bytes " rounds ") rounds ++ field (bytes " start ") start ++ bytes "\n"

-- a row: its first index, then its entries
unfoldable pub row_line : ℕ → List ℕ → List ℕ
row_line first entries = field (bytes "row ") first ++ each (field (bytes " ")) entries ++ bytes "\n"

-- the first n rows of a table, each with up to eight entries
unfoldable pub row_lines : List ℕ → ℕ → List ℕ
row_lines table zero = []
row_lines table (suc n) = row_lines table n ++ row_line (8 * n) (take 8 (drop (8 * n) table))

-- the rows of a table of S entries, only if S is at most 64
unfoldable pub rows_text : ℕ → List ℕ → List ℕ
rows_text S table = cond (leb S 64) (row_lines table ((S + 7) / 8)) []

-- a refusal, in place of all these: its number and place
unfoldable pub refused_line : ℕ → ℕ → List ℕ
refused_line number place = field (bytes "refused ") number ++ field (bytes " ") place ++ bytes "\n"
