-- The worked figures that are to be proved: what is asked of the definitions that the contracts cite, and what it must be.
use Rattle.std.specs.Prelude.{true, false, List, [], ◌∷◌, ◌++◌, map, ℕ, replicate}
use Rattle.tasks.specs.declared.sets.Task.{Task}
use Rattle.tasks.specs.declared.sets.Set.{Set}
use Rattle.tasks.specs.Lists.{values_of}
use Rattle.tasks.specs.Refusals.{Said}
use Rattle.tasks.specs.Sets.{test_set, said_tested}
use Rattle.tasks.specs.Examples.{hard, set_of, PAIR, EXAMPLE}
use Rattle.game.specs.declared.states.Job.TheVariants.{Empty, InHand}
use Rattle.game.specs.declared.states.TaskState.{TaskState}
use Rattle.game.specs.States.{index_of}
use Rattle.shield.specs.Entries.{entry_at}
use Rattle.shield.specs.Shield.{shield_table}
use Rattle.shield.specs.Build.{build_of, said_built}
use Rattle.shield.specs.Test.{test_of, said_verdict}
use Rattle.table_file.specs.Files.{file_of}
use Rattle.table_file.specs.Write.{write_of, said_written}
use Rattle.table_file.specs.Open.{open_of, said_opened}
use Rattle.guard.specs.declared.runs.Run.{Run}
use Rattle.guard.specs.Runs.{start_of}
use Rattle.guard.specs.Calls.{Call, ask, report, said_by, run_by, reached}

-- a set of one task or two, named A
abbrev one : Task → Set
one a = set_of (65 ∷ []) (a ∷ [])

abbrev two : Task → Task → Set
two a b = set_of (65 ∷ []) (a ∷ b ∷ [])

-- `hard 1 1 1` under a name of fifteen times A and then the character c
abbrev long : ℕ → Set
long c = set_of (replicate 15 65 ++ (c ∷ [])) (hard 1 1 1 ∷ [])

-- what can be asked
pub data Question : Type 0 where
  values : ℕ → Question
  index : Set → List TaskState → Question
  states : Set → Question
  table : Set → Question
  entries : Set → List ℕ → Question
  build : Set → Question
  test : Set → List ℕ → Question
  written : Set → List ℕ → Question
  opened : Set → List ℕ → Question
  calls : Set → List ℕ → ℕ → List Call → Question
  place : Set → List ℕ → ℕ → List Call → Question

abbrev said : Said → List ℕ
said a = a.number ∷ a.place ∷ a.values

-- what each call says, the first first
abbrev said_by_all : Set → List ℕ → Run → List Call → List ℕ
said_by_all s t r [] = []
said_by_all s t r (c ∷ cs) = said (said_by s t r c) ++ said_by_all s t (run_by s t r c) cs

-- the answer: a list's values; an index; what the test of a set says; a built table, whole or at some indices; what builder, tester, writer and opener say, with
-- room enough; what each call of a run says, and the index that they lead to
abbrev pub answer : Question → List ℕ
answer (values l) = values_of l
answer (index s xs) = index_of s xs ∷ []
answer (states s) = said (said_tested (test_set s))
answer (table s) = shield_table s
answer (entries s is) = map (entry_at (shield_table s)) is
answer (build s) = said (said_built (build_of s 60000 60000))
answer (test s t) = said (said_verdict (test_of s t))
answer (written s t) = said (said_written (write_of s t 60068))
answer (opened s file) = said (said_opened (open_of s file))
answer (calls s t reading cs) = said_by_all s t (start_of s reading).run cs
answer (place s t reading cs) = index_of s (reached s t reading cs).states ∷ []

pub record Figure : Type 0 where
  pub asked : Question
  pub is : List ℕ

abbrev figure : Question → List ℕ → Figure
figure q l = record { asked = q; is = l }

abbrev pub figures : List Figure
figures =
    -- P1, P2: PAIR's table, 15 safe, R 1, start's entry 6
    figure (table PAIR) (6 ∷ 5 ∷ 2 ∷ 5 ∷ 3 ∷ 1 ∷ 2 ∷ 1 ∷ 4 ∷ 4 ∷ 0 ∷ 4 ∷ 3 ∷ 1 ∷ 2 ∷ 1 ∷ [])
    ∷ figure (build PAIR) (0 ∷ 0 ∷ 15 ∷ 1 ∷ 6 ∷ [])
    -- P3: hard 1 1 1
    ∷ figure (table (one (hard 1 1 1))) (2 ∷ 1 ∷ [])
    ∷ figure (build (one (hard 1 1 1))) (0 ∷ 0 ∷ 2 ∷ 0 ∷ 2 ∷ [])
    -- P4: source 000, example 1
    ∷ figure (states EXAMPLE) (0 ∷ 0 ∷ 54 ∷ [])
    ∷ figure (entries EXAMPLE (0 ∷ 21 ∷ 26 ∷ 32 ∷ 4 ∷ [])) (7 ∷ 5 ∷ 2 ∷ 2 ∷ 0 ∷ [])
    ∷ figure (build EXAMPLE) (0 ∷ 0 ∷ 45 ∷ 1 ∷ 7 ∷ [])
    -- P5: two of hard 3 2 4
    ∷ figure (build (two (hard 3 2 8) (hard 3 2 8))) (8 ∷ 3 ∷ 0 ∷ 0 ∷ 0 ∷ [])
    -- P6: hard 2 1,2 2 and hard 2 1 2
    ∷ figure (build (two (hard 2 3 2) (hard 2 1 2))) (8 ∷ 2 ∷ 0 ∷ 0 ∷ 0 ∷ [])
    -- P7: hard age 1 without job, soft age 1 fresh
    ∷ figure (index EXAMPLE (record { age = 1; job = Empty } ∷ record { age = 1; job = InHand 0 } ∷ [])) (21 ∷ [])
    -- P8: the list 3,5,9
    ∷ figure (values 276) (3 ∷ 5 ∷ 9 ∷ [])
    -- P9: with 4,294,967,295 as the last reading, 1 is refused and 0 taken
    ∷ figure (calls PAIR (6 ∷ replicate 15 1) 4294967295 (ask 1 ∷ report 1 true 0 ∷ report 0 true 0 ∷ [])) (0 ∷ 0 ∷ 1 ∷ 17 ∷ 0 ∷ 0 ∷ 0 ∷ [])
    -- P10: PAIR at index 10, where a table of idle alone leads; idle awaited, not finished, both arrive
    ∷ figure (place PAIR (replicate 16 1) 0 (ask 0 ∷ report 1 false 0 ∷ ask 0 ∷ [])) (10 ∷ [])
    ∷ figure (calls PAIR (replicate 16 1) 0 (ask 0 ∷ report 1 false 0 ∷ ask 0 ∷ report 2 false 3 ∷ [])) (0 ∷ 0 ∷ 0 ∷ 0 ∷ 0 ∷ 0 ∷ 0 ∷ 0 ∷ 19 ∷ 1 ∷ [])
    -- P11: a name that differs in its 16th character
    ∷ figure (opened (long 66) (file_of (long 65) (2 ∷ 1 ∷ []))) (12 ∷ 20 ∷ [])
    -- P12: PAIR with every entry 1, tested, written and opened
    ∷ figure (test PAIR (replicate 16 1)) (13 ∷ 2 ∷ [])
    ∷ figure (written PAIR (replicate 16 1)) (13 ∷ 2 ∷ 0 ∷ [])
    ∷ figure (opened PAIR (file_of PAIR (replicate 16 1))) (13 ∷ 2 ∷ [])
    ∷ []
