-- Calls on a run, each with the run that the one before it gave.
use Rattle.std.specs.Prelude.{◌≡◌, ℕ, Bool, List, [], ◌∷◌}
use Rattle.tasks.specs.declared.sets.Set.{Set}
use Rattle.tasks.specs.Refusals.{Said, bad_entry, hard_miss, state_does_not_fit}
use Rattle.guard.specs.declared.runs.Run.{Run}
use Rattle.guard.specs.Runs.{start_of, said_taken}
use Rattle.guard.specs.Ask.{ask_of, said_chosen}
use Rattle.guard.specs.Report.{report_of}

-- an ask with a proposal, or a report with a reading, whether the run job finished, and the arrivals
pub data Call : Type 0 where
  ask : ℕ → Call
  report : ℕ → Bool → ℕ → Call

-- what a call answers, in the paper's terms
abbrev pub said_by : Set → List ℕ → Run → Call → Said
said_by s table r (ask p) = said_chosen (ask_of s table r p).answer
said_by s table r (report reading finished arrivals) = said_taken (report_of s r reading finished arrivals).answer

-- and the run that it returns
abbrev pub run_by : Set → List ℕ → Run → Call → Run
run_by s table r (ask p) = (ask_of s table r p).run
run_by s table r (report reading finished arrivals) = (report_of s r reading finished arrivals).run

-- the run after a list of calls, accepted or refused, the first first
abbrev pub run_from : Set → List ℕ → Run → List Call → Run
run_from s table r [] = r
run_from s table r (c ∷ cs) = run_from s table (run_by s table r c) cs

-- the run that a start and a list of calls lead to
abbrev pub reached : Set → List ℕ → ℕ → List Call → Run
reached s table reading cs = run_from s table (start_of s reading).run cs

-- an answer that is none of 16, 19 and 21
pub record Clean (a : Said) : Type 0 where
  pub entry : a.number ≡ bad_entry → ⊥
  pub miss : a.number ≡ hard_miss → ⊥
  pub fit : a.number ≡ state_does_not_fit → ⊥
