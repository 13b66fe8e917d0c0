-- The six ways in which a line is mangled. A row's forms and a line's words are both lists of texts.
use Rattle.std.specs.Prelude.{Bool, true, false, not, ◌&&◌, ◌||◌, cond, List, [], ◌∷◌, ℕ, ◌+◌, ◌/◌, eqb, leb, ltb, length, get_or, is_some, bytes_eq}
use Rattle.commands.specs.declared.buffers.Lengths.{Lengths}
use Rattle.commands.specs.Texts.{bytes}
use Rattle.commands.specs.Words.{is_number, is_bytes, decimal}
use Rattle.commands.specs.Buffers.{table_most, file_most, text_most, buffer_of}
use Rattle.commands.specs.Forms.{is_letter, asks_bytes}
use Rattle.commands.specs.Lines.{words, rows}

abbrev pub some : (List ℕ → Bool) → List (List ℕ) → Bool
some f [] = false
some f (x ∷ l) = f x || some f l

-- a word has the form that its place asks for, whatever its range: a fixed word, a buffer, bytes (at least one), or a number
unfoldable pub has_form : List ℕ → List ℕ → Bool
has_form f w =
    cond (leb 97 (get_or f 0 0)) (bytes_eq f w)
    (cond (is_letter (get_or f 0 0) (bytes "U")) (is_some (buffer_of w))
    (cond (asks_bytes (get_or f 0 0)) (is_bytes w && ltb 0 (length w)) (is_number w)))

-- each word has its form, and there are as many
unfoldable pub formed : List (List ℕ) → List (List ℕ) → Bool
formed [] [] = true
formed [] (w ∷ ws) = false
formed (f ∷ fs) [] = false
formed (f ∷ fs) (w ∷ ws) = has_form f w && formed fs ws

abbrev pub named : List (List ℕ) → List (List ℕ) → Bool
named fs ws = has_form (get_or fs 0 []) (get_or ws 0 [])

abbrev pub counted : List (List ℕ) → List (List ℕ) → Bool
counted fs ws = named fs ws && eqb (length fs) (length ws)

-- 1: it has more than 255 bytes
abbrev pub too_long : List ℕ → Bool
too_long line = ltb 255 (length line)

-- two spaces stand together
unfoldable pub two_together : List ℕ → Bool
two_together [] = false
two_together (x ∷ []) = false
two_together (x ∷ y ∷ l) = (eqb x 32 && eqb y 32) || two_together (y ∷ l)

-- the last byte is a space
unfoldable pub ends_in_space : List ℕ → Bool
ends_in_space [] = false
ends_in_space (x ∷ []) = eqb x 32
ends_in_space (x ∷ y ∷ l) = ends_in_space (y ∷ l)

-- 2: it has no byte, or begins or ends with a space, or has two spaces together
abbrev pub badly_spaced : List ℕ → Bool
badly_spaced line = eqb (length line) 0 || (eqb (get_or line 0 0) 32 || (ends_in_space line || two_together line))

-- 3: its first word is no command of the page
abbrev pub no_command : List ℕ → Bool
no_command line = not (some (λ row. named (words row) (words line)) rows)

-- 4: its number of words is not the command's
abbrev pub wrong_number : List ℕ → Bool
wrong_number line = not (some (λ row. counted (words row) (words line)) rows)

-- 5: a word does not have the form that its place asks for
abbrev pub bad_form : List ℕ → Bool
bad_form line = not (some (λ row. formed (words row) (words line)) rows)

-- the most bytes and the present length of the buffer that a word names
unfoldable pub most_named : List ℕ → ℕ
most_named b =
    cond (bytes_eq b (bytes "table")) table_most
    (cond (bytes_eq b (bytes "work")) table_most
    (cond (bytes_eq b (bytes "file")) file_most text_most))

unfoldable pub length_named : Lengths → List ℕ → ℕ
length_named l b =
    cond (bytes_eq b (bytes "table")) l.table
    (cond (bytes_eq b (bytes "work")) l.work
    (cond (bytes_eq b (bytes "file")) l.file l.text))

-- the number that a word says: of bytes, how many they are
abbrev pub number_of : ℕ → List ℕ → ℕ
number_of f w = cond (asks_bytes f) (length w / 2) (decimal w)

abbrev pub from_to : ℕ → ℕ → ℕ → Bool
from_to lo hi n = leb lo n && leb n hi

-- the numbers that a place takes, b being the word of the line's buffer, and o its offset; fixed words and buffers are no numbers
unfoldable pub takes : Lengths → List ℕ → ℕ → ℕ → ℕ → Bool
takes l b o f n =
    cond (is_letter f (bytes "I")) (from_to 1 7 n)
    (cond (is_letter f (bytes "F")) (from_to 0 1 n)
    (cond (is_letter f (bytes "B")) (from_to 0 255 n)
    (cond (is_letter f (bytes "H")) (from_to 0 65535 n)
    (cond (is_letter f (bytes "W")) (from_to 0 4294967295 n)
    (cond (is_letter f (bytes "N")) (eqb n 16)
    (cond (is_letter f (bytes "L")) (from_to 0 (most_named b) n)
    (cond (is_letter f (bytes "O")) (ltb n (length_named l b))
    (cond (is_letter f (bytes "C")) (from_to 1 256 n && leb (o + n) (length_named l b))
    (cond (is_letter f (bytes "T")) (from_to 1 125 n && leb (l.text + n) text_most)
    (is_letter f (bytes "U") || leb 97 f))))))))))

-- a test of letter and number holds at each word
unfoldable pub each_number : (ℕ → ℕ → Bool) → List (List ℕ) → List (List ℕ) → Bool
each_number t [] ws = true
each_number t (f ∷ fs) [] = true
each_number t (f ∷ fs) (w ∷ ws) = t (get_or f 0 0) (number_of (get_or f 0 0) w) && each_number t fs ws

-- a line's buffer is its second word, and its offset the third
abbrev pub ranged : Lengths → List (List ℕ) → List (List ℕ) → Bool
ranged l fs ws = each_number (takes l (get_or ws 1 []) (decimal (get_or ws 2 []))) fs ws

-- 6: the forms are a command's, but a number is outside its range, or the bytes are too many or too few
abbrev pub out_of_range : Lengths → List ℕ → Bool
out_of_range l line = some (λ row. formed (words row) (words line) && not (ranged l (words row) (words line))) rows

-- a line is mangled exactly when one of these holds
abbrev pub one_holds : Lengths → List ℕ → Bool
one_holds l line =
    too_long line || (badly_spaced line || (no_command line || (wrong_number line || (bad_form line || out_of_range l line))))
