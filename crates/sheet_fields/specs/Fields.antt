-- One byte in a number or a list.
use Rattle.std.specs.Prelude.{ℕ, ◌+◌, ◌-◌, ◌%◌, ◌^◌, cond, ◌&&◌, ◌==◌, nat_le, nat_lt}
use Rattle.tasks.specs.declared.sets.Task.{Task}
use Rattle.sheet_form.specs.Machine.{digit}
use Rattle.sheet_fields.specs.declared.fields.Kept.{Kept}
use Rattle.sheet_fields.specs.declared.state.State.{State}
use Rattle.sheet_fields.specs.State.{at_line, in_deadline, in_runs, in_gaps, at_fault, blank_of, moved}

-- what is kept of a list that does not rise
abbrev pub broken : Kept
broken = record { last = 17; bits = 0 }

-- no list begun
abbrev pub no_list : Kept
no_list = record { last = 0; bits = 0 }

-- one number more on a list, while it rises
unfoldable pub push_of : ℕ → ℕ → ℕ → Kept
push_of last bits v = cond (nat_lt last v && nat_le v 16) (record { last = v; bits = (bits + 2 ^ (v - 1)) % 65536 }) broken

-- the byte that ends a field
unfoldable pub ender_of : ℕ → ℕ
ender_of m = cond (m == in_gaps) 10 32

-- the task that ends with the number read, the last of its gaps
abbrev pub ended_task : State → Task
ended_task s = record { kind = s.kind; deadline = s.deadline; runs = s.runs; gaps = (push_of s.last s.bits s.at).bits }

-- a number begins: the list before it in its field, the task's deadline and run times
abbrev pub begun : State → ℕ → Kept → ℕ → ℕ → State
begun s m l d c = record { mode = m; at = 0; last = l.last; bits = l.bits; kind = s.kind; deadline = d; runs = c; count = s.count }

-- the number read ends a field
unfoldable pub closed_of : State → State
closed_of s =
    cond (s.mode == in_deadline) (begun s in_runs (record { last = s.last; bits = s.bits }) s.at s.runs)
    (cond (s.mode == in_runs) (begun s in_gaps no_list s.deadline (push_of s.last s.bits s.at).bits)
    (cond (nat_lt s.count 7) (record { mode = at_line; at = 0; last = 0; bits = 0; kind = 0; deadline = 0; runs = 0; count = s.count + 1 })
    (blank_of at_fault)))

-- a comma after the number read
abbrev pub comma_of : State → State
comma_of s = begun s s.mode (push_of s.last s.bits s.at) s.deadline s.runs

-- a digit, the field's end or, in a list, a comma
unfoldable pub field_of : State → ℕ → State
field_of s b =
    cond (nat_lt 0 (digit s.at b)) (moved s s.mode (digit s.at b))
    (cond (nat_lt 0 s.at) (cond (b == ender_of s.mode) (closed_of s) (cond (nat_lt in_deadline s.mode && b == 44) (comma_of s) (blank_of at_fault))) (blank_of at_fault))
