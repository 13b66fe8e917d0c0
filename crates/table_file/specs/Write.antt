-- The writer: what it answers, and what it leaves in the file buffer.
use Rattle.std.specs.Prelude.{cond, List, [], ◌∷◌, ◌++◌, ◌≡◌, ℕ, ltb, length, drop, Result, Ok, Err}
use Rattle.tasks.specs.declared.refusals.Refusal.{Refusal}
use Rattle.tasks.specs.declared.sets.Set.{Set}
use Rattle.tasks.specs.Refusals.{Said, answered, refusing, short}
use Rattle.tasks.specs.Sets.{test_set}
use Rattle.shield.specs.Test.{test_of}
use Rattle.table_file.specs.Files.{file_of, file_length}

-- a lent buffer of fewer than n bytes
abbrev pub too_short : ℕ → Result ℕ Refusal
too_short n = Err (short n)

abbrev pub short_or : ℕ → ℕ → Result ℕ Refusal → Result ℕ Refusal
short_or m n w = cond (ltb m n) (too_short n) w

-- the file's length, or the tester's refusal
abbrev pub write_verdict : Set → Result Unit Refusal → Result ℕ Refusal
write_verdict s (Ok u) = Ok (file_length s)
write_verdict s (Err f) = Err f

-- the set's own refusal, then the table's length, then the file buffer's, then the test
abbrev pub write_tested : Set → List ℕ → ℕ → Result ℕ Refusal → Result ℕ Refusal
write_tested s table m (Err f) = Err f
write_tested s table m (Ok S) = short_or (length table) S (short_or m (file_length s) (write_verdict s (test_of s table)))

-- what the writer answers for a file buffer of m bytes
abbrev pub write_of : Set → List ℕ → ℕ → Result ℕ Refusal
write_of s table m = write_tested s table m (test_set s)

-- the file buffer: the file of the table, and no byte beyond its length changed; a refusal changes nothing
abbrev pub file_written : Set → List ℕ → Result ℕ Refusal → List ℕ → List ℕ
file_written s table (Ok n) file = file_of s table ++ drop n file
file_written s table (Err f) file = file

-- a call of the writer: its answer, and the bytes of the file buffer before and after
pub record Writes (s : Set) (t f : List ℕ) (r : Result ℕ Refusal) (f' : List ℕ) : Type 0 where
  pub answer : r ≡ write_of s t (length f)
  pub file : f' ≡ file_written s t r f

-- the answer in the paper's terms
abbrev pub said_written : Result ℕ Refusal → Said
said_written (Ok n) = answered (n ∷ [])
said_written (Err f) = refusing 1 f
