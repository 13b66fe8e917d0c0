-- One byte of a sheet, by the mode that the bytes before it led to.
use Rattle.std.specs.Prelude.{Bool, ◌&&◌, cond, List, ℕ, ◌+◌, ltb, eqb, length, get_or, set}
use Rattle.tasks.specs.declared.sets.Task.{Task}
use Rattle.tasks.specs.Sets.{name_byte}
use Rattle.sheet_form.specs.Form.{kind_text, set_text}
use Rattle.sheet_fields.specs.declared.state.State.{State}
use Rattle.sheet_fields.specs.State.{set_word, hard_word, soft_word, in_name, at_line, in_deadline, in_gaps, at_fault, blank_of, moved}
use Rattle.sheet_fields.specs.Fields.{ended_task, field_of}

-- the word that a mode names
abbrev pub word_at : ℕ → List ℕ
word_at m = cond (eqb m set_word) set_text (kind_text (eqb m hard_word))

-- what follows a word's last byte: the name, or the deadline of a task of that kind
abbrev pub word_end : State → State
word_end s =
    cond (eqb s.mode set_word) (moved s in_name 0)
    (record { mode = in_deadline; at = 0; last = s.last; bits = s.bits; kind = cond (eqb s.mode hard_word) 1 s.kind; deadline = s.deadline; runs = s.runs; count = s.count })

-- the word's next byte
unfoldable pub word_of : State → ℕ → State
word_of s b =
    cond (ltb s.at (length (word_at s.mode)) && eqb b (get_or (word_at s.mode) s.at 0))
    (cond (ltb (s.at + 1) (length (word_at s.mode))) (moved s s.mode (s.at + 1)) (word_end s))
    (blank_of at_fault)

-- a character of the name, or the line's end after the first
unfoldable pub name_of : State → ℕ → State
name_of s b =
    cond (name_byte b)
    (cond (ltb s.at 16) (moved s s.mode (s.at + 1)) (blank_of at_fault))
    (cond (ltb 0 s.at && eqb b 10) (moved s at_line 0) (blank_of at_fault))

-- `h` or `s`, where there is room for a task
unfoldable pub line_start : State → ℕ → State
line_start s b =
    cond (ltb s.count 7) (cond (eqb b 104) (moved s hard_word 1) (cond (eqb b 115) (moved s soft_word 1) (blank_of at_fault))) (blank_of at_fault)

unfoldable pub step_of : State → ℕ → State
step_of s b =
    cond (ltb s.mode in_name) (word_of s b)
    (cond (eqb s.mode in_name) (name_of s b) (cond (eqb s.mode at_line) (line_start s b) (cond (ltb s.mode at_fault) (field_of s b) (blank_of at_fault))))

-- whether the bytes that led to a state are a whole sheet's: a line could begin, and a task has ended
abbrev pub whole_at : State → Bool
whole_at s = eqb s.mode at_line && ltb 0 s.count

-- WHAT A BYTE THAT LEADS FROM s TO n ADDS

-- a character of the name, at its place
abbrev pub name_after : List ℕ → State → State → ℕ → List ℕ
name_after name s n b = cond (eqb s.mode in_name && eqb n.mode in_name && ltb s.at 16) (set name s.at b) name

-- a task that ends, after those before it
abbrev pub ends_task : State → State → Bool
ends_task s n = eqb s.mode in_gaps && eqb n.mode at_line && ltb s.count 7

abbrev pub tasks_after : List Task → State → State → List Task
tasks_after tasks s n = cond (ends_task s n) (set tasks s.count (ended_task s)) tasks
