-- The report on a sheet: what the call answers, and what it leaves in everything that it was lent.
use Rattle.std.specs.Prelude.{cond, List, [], ◌∷◌, ◌++◌, ◌≡◌, ℕ, ◌≤◌, ltb, length, drop, Result, Ok, Err}
use Rattle.tasks.specs.declared.refusals.Refusal.{Refusal}
use Rattle.tasks.specs.declared.sets.Set.{Set}
use Rattle.tasks.specs.Refusals.{Said, answered, refusing, number_of, short}
use Rattle.tasks.specs.Sets.{states_of}
use Rattle.shield.specs.declared.builder.Built.{Built}
use Rattle.shield.specs.Shield.{shield_table}
use Rattle.shield.specs.Build.{build_of, table_built, work_built}
use Rattle.sheet_reader.specs.Reading.{read_text}
use Rattle.texts.specs.Puts.{Puts}
use Rattle.report_lines.specs.Lines.{set_line, shield_line, rows_text, refused_line}

-- the lines of what the builder answers for a set: all of them, or that of the refusal
abbrev pub built_text : Set → Result Built Refusal → List ℕ
built_text s (Ok b) = set_line s (states_of s) ++ shield_line b.safe b.rounds b.start ++ rows_text (states_of s) (shield_table s)
built_text s (Err f) = refused_line (number_of f.reason) f.place

-- a report's bytes, and those of table and work after it
pub record Told : Type 0 where
  pub text : List ℕ
  pub table : List ℕ
  pub work : List ℕ

abbrev pub told_built : Set → List ℕ → List ℕ → Result Built Refusal → Told
told_built s t w b = record { text = built_text s b; table = table_built s b t; work = work_built s b w }

-- the set of a sheet goes to the builder; a sheet that is refused leaves table and work as they are
abbrev pub told_read : Set → List ℕ → List ℕ → Result Unit Refusal → Told
told_read s t w (Ok _) = told_built s t w (build_of s (length t) (length w))
told_read s t w (Err f) = record { text = refused_line (number_of f.reason) f.place; table = t; work = w }

-- the report on a sheet, with what table and work held before it
unfoldable pub told_of : List ℕ → List ℕ → List ℕ → Told
told_of sheet t w = told_read (read_text sheet).set t w (read_text sheet).answer

-- every report fits in 390 bytes: a set line in 42, a shield line in 36, and each of eight rows in 39
abbrev pub room : ℕ
room = 390

-- an answer, and the bytes of table, work and output after it
pub record Left : Type 0 where
  pub answer : Result ℕ Refusal
  pub table : List ℕ
  pub work : List ℕ
  pub output : List ℕ

abbrev pub leaving : Result ℕ Refusal → List ℕ → List ℕ → List ℕ → Left
leaving r t w o = record { answer = r; table = t; work = w; output = o }

-- the report's length, and the report in the output's first bytes; those beyond stay
abbrev pub placed : Told → List ℕ → Left
placed x o = leaving (Ok (length x.text)) x.table x.work (x.text ++ drop (length x.text) o)

-- an output without room for every report: 7, before all else, and no byte changes
unfoldable pub report_of : List ℕ → List ℕ → List ℕ → List ℕ → Left
report_of sheet t w o =
    cond (ltb (length o) room) (leaving (Err (short room)) t w o)
    (placed (told_of sheet t w) o)

-- the output p has become q, with a report from its first byte on up to n, and table and work have become t and w
pub record Tells (p q : List ℕ) (n : ℕ) (t w : List ℕ) (x : Told) : Type 0 where
  pub text : Puts p q 0 n x.text
  pub short : length x.text ≤ room
  pub table : t ≡ x.table
  pub work : w ≡ x.work

-- the answer in the paper's terms
abbrev pub said_reported : Result ℕ Refusal → Said
said_reported (Ok n) = answered (n ∷ [])
said_reported (Err f) = refusing 1 f
