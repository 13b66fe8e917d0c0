-- The forms of a command's places, and the value of a word in each.
--
-- A form is written as a word: a fixed word as itself, in lower case, and any other as a capital:
-- U a buffer, L a length, O an offset, C a count, I a task, F 0 or 1, B a byte, H 16 bits, W 32 bits, N a name, T a text.
use Rattle.std.specs.Bool.{then_some}
use Rattle.std.specs.Prelude.{Bool, ◌||◌, cond, List, ℕ, ◌+◌, ◌-◌, min, eqb, leb, get_or, Option, bytes_eq}
use Rattle.std.specs.declared.ops.Range.{Range}
use Rattle.commands.specs.declared.buffers.Lengths.{Lengths}
use Rattle.commands.specs.declared.forms.Values.{Values}
use Rattle.commands.specs.Texts.{bytes}
use Rattle.commands.specs.Words.{number_in, bytes_in}
use Rattle.commands.specs.Buffers.{text_most, length_of, most_of, buffer_of}

-- a form's first byte is that letter
abbrev pub is_letter : ℕ → List ℕ → Bool
is_letter f s = eqb f (get_or s 0 0)

-- the numbers from lo on and below n
abbrev pub up_to : ℕ → ℕ → Range ℕ
up_to lo n = record { start = lo; end = n }

-- L is 0 to the buffer's most; O is below its length; C is 1 to 256, and O and C together at most its length;
-- T is 1 to 125 bytes, and the new length at most 1,200; any other capital takes nothing
unfoldable pub buffer_range_of : Lengths → Values → ℕ → Range ℕ
buffer_range_of l vs f =
    cond (is_letter f (bytes "L")) (up_to 0 (most_of vs.first + 1))
    (cond (is_letter f (bytes "O")) (up_to 0 (length_of l vs.first))
    (cond (is_letter f (bytes "C")) (up_to 1 (min 256 (length_of l vs.first - vs.second) + 1))
    (cond (is_letter f (bytes "T")) (up_to 1 (min 125 (text_most - l.text) + 1))
    (up_to 1 0))))

-- I is 1 to 7; F is 0 or 1; B is 0 to 255; H is 0 to 65,535; W is 0 to 4,294,967,295; N is exactly 16 bytes
unfoldable pub range_of : Lengths → Values → ℕ → Range ℕ
range_of l vs f =
    cond (is_letter f (bytes "I")) (up_to 1 8)
    (cond (is_letter f (bytes "F")) (up_to 0 2)
    (cond (is_letter f (bytes "B")) (up_to 0 256)
    (cond (is_letter f (bytes "H")) (up_to 0 65536)
    (cond (is_letter f (bytes "W")) (up_to 0 4294967296)
    (cond (is_letter f (bytes "N")) (up_to 16 17)
    (buffer_range_of l vs f))))))

-- N and T ask for bytes
unfoldable pub asks_bytes : ℕ → Bool
asks_bytes f = is_letter f (bytes "N") || is_letter f (bytes "T")

-- a number, or how many bytes, in a range
abbrev pub in_range : ℕ → Range ℕ → List ℕ → Option ℕ
in_range f r w = cond (asks_bytes f) (bytes_in r.start r.end w) (number_in r.start r.end w)

-- the value of a word by the letter of its form
unfoldable pub letter_value : Lengths → Values → ℕ → List ℕ → Option ℕ
letter_value l vs f w = cond (is_letter f (bytes "U")) (buffer_of w) (in_range f (range_of l vs f) w)

-- the value of a word in a form: 0 for a fixed word
unfoldable pub value_of : Lengths → Values → List ℕ → List ℕ → Option ℕ
value_of l vs form w = cond (leb 97 (get_or form 0 0)) (then_some (bytes_eq form w) 0) (letter_value l vs (get_or form 0 0) w)

-- the values with that of the word at a place
abbrev pub kept : Values → ℕ → ℕ → Values
kept vs place v =
    cond (eqb place 1) (record { first = v; second = vs.second; third = vs.third })
    (cond (eqb place 2) (record { first = vs.first; second = v; third = vs.third })
    (cond (eqb place 3) (record { first = vs.first; second = vs.second; third = v }) vs))

abbrev pub no_values : Values
no_values = record { first = 0; second = 0; third = 0 }
