-- The four buffers: table, work, file, text.
use Rattle.std.specs.Prelude.{cond, List, ℕ, eqb, ltb, Option, Some, None, bytes_eq}
use Rattle.commands.specs.declared.buffers.Lengths.{Lengths}
use Rattle.commands.specs.Texts.{bytes}

-- the buffers' numbers
abbrev pub table : ℕ
table = 0

abbrev pub work : ℕ
work = 1

abbrev pub file : ℕ
file = 2

abbrev pub text : ℕ
text = 3

-- the most bytes of each: of table and of work, of file, of text
abbrev pub table_most : ℕ
table_most = 65536

abbrev pub file_most : ℕ
file_most = 70000

abbrev pub text_most : ℕ
text_most = 1200

-- the present length of a buffer
unfoldable pub length_of : Lengths → ℕ → ℕ
length_of l k = cond (eqb k table) l.table (cond (eqb k work) l.work (cond (eqb k file) l.file l.text))

-- the most bytes of a buffer
unfoldable pub most_of : ℕ → ℕ
most_of k = cond (ltb k file) table_most (cond (eqb k file) file_most text_most)

-- one of the fixed words `table`, `work`, `file`, `text`
unfoldable pub buffer_of : List ℕ → Option ℕ
buffer_of w =
    cond (bytes_eq w (bytes "table")) (Some table)
    (cond (bytes_eq w (bytes "work")) (Some work)
    (cond (bytes_eq w (bytes "file")) (Some file)
    (cond (bytes_eq w (bytes "text")) (Some text) None)))
