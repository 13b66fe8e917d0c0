-- A line, read by the page's rows.
use Rattle.std.specs.Prelude.{cond, List, [], ◌∷◌, ℕ, ◌+◌, ltb, length, Option, Some, None, option_and_then}
use Rattle.commands.specs.declared.lines.Command.{Command}
use Rattle.commands.specs.declared.buffers.Lengths.{Lengths}
use Rattle.commands.specs.declared.forms.Values.{Values}
use Rattle.commands.specs.Texts.{bytes, parts}
use Rattle.commands.specs.Forms.{value_of, kept, no_values}

-- the commands, a row each: the command's word, then the forms of the words behind it
unfoldable pub page : List ℕ
page = bytes "reset\nfill U L B\ncut U L\npoke U O B\nshow U O C\nsum U\ntext T\nread\nnext H\npast H\nsheet\nname N\ncount B\nkind I B\ndeadline I B\nruns I H\ngaps I H\nshow set\ntest set\nbuild\ntest table\nwrite\nopen\nprint\nstart W\nask B\nreport W F B\nshow run\nage I B\njob I B\njob I none\narrived I W\nfinished I W\nreplaced I W\nticks W\nsubstitutions W\nreading W\nawaited B\nawaited none"

-- the words of a line, and the forms of a row: what stands between spaces
abbrev pub words : List ℕ → List (List ℕ)
words l = parts 32 l

abbrev pub rows : List (List ℕ)
rows = parts 10 page

-- each word has a value in the form of its place, and there are as many words as forms
unfoldable pub fit : Lengths → Values → ℕ → List (List ℕ) → List (List ℕ) → Option Values
fit l vs place [] [] = Some vs
fit l vs place [] (w ∷ ws) = None
fit l vs place (f ∷ fs) [] = None
fit l vs place (f ∷ fs) (w ∷ ws) = option_and_then (λ v. fit l (kept vs place v) (place + 1) fs ws) (value_of l vs f w)

abbrev pub taken_or : ℕ → Option Values → Option Command → Option Command
taken_or kind (Some vs) p = Some (record { kind = kind; values = vs })
taken_or kind None p = p

-- the first row that the words fit, the rows being numbered from `kind` on
unfoldable pub fit_rows : Lengths → ℕ → List (List ℕ) → List (List ℕ) → Option Command
fit_rows l kind [] ws = None
fit_rows l kind (row ∷ rest) ws = taken_or kind (fit l no_values 0 (words row) ws) (fit_rows l (kind + 1) rest ws)

-- a line of more than 255 bytes is mangled, and one that fits no row
unfoldable pub parse_of : Lengths → List ℕ → Option Command
parse_of l line = cond (ltb 255 (length line)) None (fit_rows l 0 rows (words line))
