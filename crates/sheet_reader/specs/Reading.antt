-- What reading a sheet answers: refusals 1 and 2, then those of the set's own test; or the set.
use Rattle.std.specs.Prelude.{cond, List, [], ◌∷◌, ◌++◌, ℕ, ltb, length, Result, Ok, Err}
use Rattle.tasks.specs.declared.refusals.Reason.TheVariants.{SheetTooLong, SheetForm}
use Rattle.tasks.specs.declared.refusals.Refusal.{Refusal}
use Rattle.tasks.specs.declared.sets.Task.{Task}
use Rattle.tasks.specs.declared.sets.Set.{Set}
use Rattle.tasks.specs.Refusals.{Said, answered, number_of}
use Rattle.tasks.specs.Sets.{no_set, test_set}
use Rattle.sheet_form.specs.Form.{longest, Form, fits, stops}
use Rattle.sheet_form.specs.Sets.{set_of}
use Rattle.sheet_form.proofs.Places.{form}
use Rattle.sheet_reader.specs.declared.SheetRead.{SheetRead}

-- a refusal returns zeros beside it
abbrev pub refused_with : Refusal → SheetRead
refused_with f = record { answer = Err f; set = no_set }

-- the set of a sheet whose form is right, by the test of that set
abbrev pub tested_read : Set → Result ℕ Refusal → SheetRead
tested_read s (Ok n) = record { answer = Ok tt; set = s }
tested_read s (Err f) = refused_with f

-- a fault of form is placed at the length of the longest beginning that some sheet has
abbrev pub fault_read : ℕ → SheetRead
fault_read p = refused_with (record { reason = SheetForm; place = p })

-- a text over 1,024 bytes, whatever it holds
abbrev pub long_read : SheetRead
long_read = refused_with (record { reason = SheetTooLong; place = 0 })

-- by the form of the text: its fault, or the test of the set that it says
abbrev pub form_read : (t : List ℕ) → Form t → SheetRead
form_read t (stops p f) = fault_read p
form_read t (fits m) = tested_read (set_of m.sheet) (test_set (set_of m.sheet))

-- 1, 2, then 3 to 6: every text has a form (`form`), and whatever shows it gives the one answer (`read_short`)
unfoldable pub read_text : List ℕ → SheetRead
read_text t = cond (ltb longest (length t)) long_read (form_read t (form t))

-- how many bytes a reader moves on by: to the end of a sheet or to the place of a fault of form, and not at all in a text that is too long
abbrev pub form_reach : (t : List ℕ) → Form t → ℕ
form_reach t (stops p f) = p
form_reach t (fits m) = length t

unfoldable pub reach_text : List ℕ → ℕ
reach_text t = cond (ltb longest (length t)) 0 (form_reach t (form t))

-- the values of a set: name, count, and each record's kind, D, C and A
abbrev pub task_values : List Task → List ℕ
task_values [] = []
task_values (τ ∷ ts) = τ.kind ∷ τ.deadline ∷ τ.runs ∷ τ.gaps ∷ task_values ts

abbrev pub set_values : Set → List ℕ
set_values s = s.name ++ (s.count ∷ task_values s.tasks)

-- the answer in the paper's terms
abbrev pub said_answer : Result Unit Refusal → List ℕ → Said
said_answer (Ok _) vs = answered vs
said_answer (Err f) vs = record { number = number_of f.reason; place = f.place; values = vs }

abbrev pub said_read : SheetRead → Said
said_read r = said_answer r.answer (set_values r.set)
