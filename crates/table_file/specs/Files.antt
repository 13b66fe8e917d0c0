-- A table file: its header, and its bytes.
use Rattle.std.specs.Prelude.{List, [], ◌∷◌, ◌++◌, ℕ, zero, suc, ◌+◌, ◌*◌, ◌/◌, ◌%◌, take}
use Rattle.tasks.specs.declared.sets.Task.{Task}
use Rattle.tasks.specs.declared.sets.Set.{Set}
use Rattle.tasks.specs.Sets.{task_at, states_of}
use Rattle.texts.specs.Texts.{bytes}

-- a number in n bytes, low byte first
unfoldable pub low_first : ℕ → ℕ → List ℕ
low_first zero x = []
low_first (suc n) x = x % 256 ∷ low_first n (x / 256)

abbrev pub mark : List ℕ
mark = bytes "SHT"

-- version 1 as 16 bits
abbrev pub version : List ℕ
version = 1 ∷ 0 ∷ []

-- per task six bytes: kind (0 soft, 1 hard), D, C and A as 16 bits each
unfoldable pub task_bytes : Task → List ℕ
task_bytes τ = τ.kind ∷ τ.deadline ∷ (low_first 2 τ.runs ++ low_first 2 τ.gaps)

-- the bytes of the first k tasks
unfoldable pub tasks_bytes : Set → ℕ → List ℕ
tasks_bytes s zero = []
tasks_bytes s (suc k) = tasks_bytes s k ++ task_bytes (task_at s k)

-- mark; version; name, 16 bytes, which the set has padded with zero bytes; task count, one byte; the tasks; S as 32 bits
unfoldable pub header : Set → List ℕ
header s = mark ++ version ++ s.name ++ (s.count ∷ []) ++ tasks_bytes s s.count ++ low_first 4 (states_of s)

-- how long it is
abbrev pub header_length : Set → ℕ
header_length s = 26 + 6 * s.count

-- the header, then S entries
unfoldable pub file_of : Set → List ℕ → List ℕ
file_of s table = header s ++ take (states_of s) table

-- length 26 + 6n + S
abbrev pub file_length : Set → ℕ
file_length s = header_length s + states_of s
