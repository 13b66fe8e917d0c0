-- What is kept of a sheet that is half read.
use Rattle.std.specs.Prelude.{ℕ}
use Rattle.sheet_fields.specs.declared.state.State.{State}

-- the modes: in the words `set `, `hard ` and `soft `, in the name, at a line's start, in a field, at a fault
abbrev pub set_word : ℕ
set_word = 0

abbrev pub hard_word : ℕ
hard_word = 1

abbrev pub soft_word : ℕ
soft_word = 2

abbrev pub in_name : ℕ
in_name = 3

abbrev pub at_line : ℕ
at_line = 4

abbrev pub in_deadline : ℕ
in_deadline = 5

abbrev pub in_runs : ℕ
in_runs = 6

abbrev pub in_gaps : ℕ
in_gaps = 7

abbrev pub at_fault : ℕ
at_fault = 8

-- nothing kept, at a mode
abbrev pub blank_of : ℕ → State
blank_of m = record { mode = m; at = 0; last = 0; bits = 0; kind = 0; deadline = 0; runs = 0; count = 0 }

-- the same kept, at another mode and place
abbrev pub moved : State → ℕ → ℕ → State
moved s m n = record { mode = m; at = n; last = s.last; bits = s.bits; kind = s.kind; deadline = s.deadline; runs = s.runs; count = s.count }
