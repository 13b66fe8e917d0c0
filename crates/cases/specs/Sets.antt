-- The sets of the worked cases, by the name of CASE.
use Rattle.std.specs.Prelude.{List, [], ◌∷◌, ℕ, replicate}
use Rattle.tasks.specs.declared.sets.Task.{Task}
use Rattle.tasks.specs.declared.sets.Set.{Set}
use Rattle.tasks.specs.Examples.{set_of}

-- any record
abbrev pub task_of : ℕ → ℕ → ℕ → ℕ → Task
task_of k d c a = record { kind = k; deadline = d; runs = c; gaps = a }

-- any count and seven records
abbrev pub records_of : ℕ → List Task → Set
records_of n ts = record { name = 67 ∷ 65 ∷ 83 ∷ 69 ∷ replicate 12 0; count = n; tasks = ts }

-- tasks, and blank records beyond them
abbrev pub case_of : List Task → Set
case_of ts = set_of (67 ∷ 65 ∷ 83 ∷ 69 ∷ []) ts

-- a set by another name
abbrev pub renamed : List ℕ → Set → Set
renamed name s = record { name = name; count = s.count; tasks = s.tasks }
