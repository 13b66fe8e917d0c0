-- The set that a sheet says, and the sheet that a set has.
use Rattle.std.specs.Prelude.{Bool, true, ◌&&◌, cond, List, [], ◌∷◌, ◌++◌, map, ℕ, suc, ◌+◌, ◌-◌, ◌^◌, ltb, eqb, length, take, replicate, Option, Some, None, Result}
use Rattle.tasks.specs.declared.refusals.Reason.{Reason}
use Rattle.tasks.specs.declared.refusals.Reason.TheVariants.{BadRecord, RunTimeAboveDeadline, GapBelowDeadline}
use Rattle.tasks.specs.declared.refusals.Refusal.{Refusal}
use Rattle.tasks.specs.declared.sets.Task.{Task}
use Rattle.tasks.specs.declared.sets.Set.{Set}
use Rattle.tasks.specs.Lists.{values_of, head_or}
use Rattle.tasks.specs.Sets.{characters, no_task, refuse_or}
use Rattle.sheet_form.specs.Form.{Values, Line, Sheet, sheet_text}

-- FROM A SHEET TO A SET

-- the numbers of a list
abbrev pub numbers : Values → List ℕ
numbers l = l.firsts ++ (l.final ∷ [])

-- strictly rising, from above l
abbrev pub rising_from : ℕ → List ℕ → Bool
rising_from l [] = true
rising_from l (x ∷ xs) = ltb l x && rising_from x xs

abbrev pub rising : Values → Bool
rising l = rising_from 0 (numbers l)

-- value k at bit k - 1
abbrev pub bits : List ℕ → ℕ
bits [] = 0
bits (x ∷ xs) = 2 ^ (x - 1) + bits xs

-- a list as a record keeps it; one that does not rise is kept as an empty one, for which the test of a set gives 3 at its task
unfoldable pub list_of : Values → ℕ
list_of l = cond (rising l) (bits (numbers l)) 0

abbrev pub kind_of : Bool → ℕ
kind_of h = cond h 1 0

abbrev pub task_of : Line → Task
task_of l = record { kind = kind_of l.hard; deadline = l.deadline; runs = list_of l.runs; gaps = list_of l.gaps }

-- xs, made n long
unfoldable pub padded : {A : Type 0} → ℕ → A → List A → List A
padded n d xs = xs ++ replicate (n - length xs) d

abbrev pub set_of : Sheet → Set
set_of s = record { name = padded 16 0 s.name; count = length s.lines; tasks = padded 7 no_task (map task_of s.lines) }

-- why a line is refused, if it is: a list that does not rise, then cmax above D, then the shortest gap below D
unfoldable pub line_fault : Line → Option Reason
line_fault l =
    cond (rising l.runs && rising l.gaps)
    (cond (ltb l.deadline l.runs.final) (Some RunTimeAboveDeadline)
    (cond (ltb (head_or 0 (numbers l.gaps)) l.deadline) (Some GapBelowDeadline) None))
    (Some BadRecord)

-- the lowest task at fault of the lines from that of task i + 1 on, and t where there is none
abbrev pub lowest_line : ℕ → List Line → Result ℕ Refusal → Result ℕ Refusal
lowest_line i [] t = t
lowest_line i (l ∷ ls) t = refuse_or (line_fault l) (suc i) (lowest_line (suc i) ls t)

-- FROM A SET TO A SHEET

-- the last of a list apart
unfoldable pub last_apart : List ℕ → Values
last_apart [] = record { firsts = []; final = 0 }
last_apart (x ∷ []) = record { firsts = []; final = x }
last_apart (x ∷ y ∷ ys) = record { firsts = x ∷ (last_apart (y ∷ ys)).firsts; final = (last_apart (y ∷ ys)).final }

abbrev pub line_of : Task → Line
line_of τ = record { hard = eqb τ.kind 1; deadline = τ.deadline; runs = last_apart (values_of τ.runs); gaps = last_apart (values_of τ.gaps) }

abbrev pub sheet_of : Set → Sheet
sheet_of s = record { name = take (characters s.name) s.name; lines = map line_of (take s.count s.tasks) }

-- the one sheet that a set has
abbrev pub text_of : Set → List ℕ
text_of s = sheet_text (sheet_of s)
