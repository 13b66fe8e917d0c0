-- A run: what is in it, the run at the start, and whether a run fits a set.
use Rattle.std.specs.Prelude.{ℕ, ◌+◌, ◌<◌, Bool, cond, not, ◌&&◌, List, [], ◌∷◌, Option, Some, None, Result, Ok, Err, ◌==◌, nat_le, nat_lt, slice_index_or}
use Rattle.arena.specs.Tests.{all_below, one}
use Rattle.tasks.specs.declared.sets.Task.{Task}
use Rattle.tasks.specs.declared.sets.Set.{Set}
use Rattle.tasks.specs.declared.refusals.Reason.{Reason}
use Rattle.tasks.specs.declared.refusals.Refusal.{Refusal}
use Rattle.tasks.specs.Refusals.{Said, answered, refusing}
use Rattle.tasks.specs.Sets.{within, task_at, test_set}
use Rattle.game.specs.declared.states.Job.TheVariants.{InHand}
use Rattle.game.specs.declared.states.TaskState.{TaskState}
use Rattle.game.specs.States.{in_range, no_state, state_at}
use Rattle.game.specs.Ticks.{in_hand}
use Rattle.game.specs.Game.{legal}
use Rattle.guard.specs.declared.runs.Counts.{Counts}
use Rattle.guard.specs.declared.runs.Run.{Run}
use Rattle.guard.specs.declared.runs.Answered.{Answered}

-- a run counts at most so many ticks
abbrev pub tick_limit : ℕ
tick_limit = 16777216

-- the seven places of a run, each with the value of f at its number
abbrev pub seven : {A : Type 0} → (ℕ → A) → List A
seven f = f 0 ∷ f 1 ∷ f 2 ∷ f 3 ∷ f 4 ∷ f 5 ∷ f 6 ∷ []

-- no jobs at all
abbrev pub no_counts : Counts
no_counts = record { arrived = 0; finished = 0; replaced = 0 }

-- the counts of task k + 1
abbrev pub counts_at : List Counts → ℕ → Counts
counts_at ns k = slice_index_or ns k no_counts

-- a fresh job, which has arrived
abbrev pub fresh_state : TaskState
fresh_state = record { age = 0; job = InHand 0 }

abbrev pub fresh_counts : Counts
fresh_counts = record { arrived = 1; finished = 0; replaced = 0 }

-- the start in place k, for n tasks
abbrev pub start_state : ℕ → ℕ → TaskState
start_state n k = cond (nat_lt k n) fresh_state no_state

abbrev pub start_counts : ℕ → ℕ → Counts
start_counts n k = cond (nat_lt k n) fresh_counts no_counts

-- the run at the start, for n tasks: all jobs fresh, nothing awaited, places beyond n zero with no job
unfoldable pub start_run : ℕ → ℕ → Run
start_run n reading = record {
  states = seven (start_state n);
  counts = seven (start_counts n);
  ticks = 0;
  substitutions = 0;
  reading = reading;
  awaited = None;
}

-- a refusal, beside the run as it was given
abbrev pub refused : {A : Type 0} → Run → Reason → ℕ → Answered A
refused r reason place = record { answer = Err (record { reason = reason; place = place }); run = r }

-- a refused start returns a run of zeros with no job
abbrev pub start_tested : Set → ℕ → Result ℕ Refusal → Answered (Unit {0})
start_tested s reading (Err f) = record { answer = Err f; run = start_run 0 0 }
start_tested s reading (Ok S) = record { answer = Ok tt; run = start_run s.count reading }

-- what starting answers
abbrev pub start_of : Set → ℕ → Answered (Unit {0})
start_of s reading = start_tested s reading (test_set s)

-- arrived is finished plus replaced plus the job in hand
abbrev pub sum_holds : TaskState → Counts → Bool
sum_holds x n = n.arrived == n.finished + n.replaced + one (in_hand x.job)

-- a task's place fits: age and ticks given in range, the job sum holds, arrived is 1 to ticks + 1
unfoldable pub task_fits : Task → ℕ → TaskState → Counts → Bool
task_fits τ ticks x n = in_range τ x && (sum_holds x n && within 1 (ticks + 1) n.arrived)

-- one more is still within 32 bits
abbrev pub Room : ℕ → Type 0
Room n = n < 4294967295

-- so for each of a task's counts
pub record Small (n : Counts) : Type 0 where
  pub arrived : Room n.arrived
  pub finished : Room n.finished
  pub replaced : Room n.replaced

-- a place beyond the tasks is zero with no job
unfoldable pub place_empty : TaskState → Counts → Bool
place_empty x n =
    (x.age == 0) && (not (in_hand x.job) && (n.arrived == 0 && (n.finished == 0 && n.replaced == 0)))

unfoldable pub place_fits : Set → Run → ℕ → Bool
place_fits s r k =
    let x = state_at r.states k in
    let n = counts_at r.counts k in
    cond (nat_lt k s.count) (task_fits (task_at s k) r.ticks x n) (place_empty x n)

-- a choice is idle or a runnable task
unfoldable pub legal_for : Set → List TaskState → ℕ → Bool
legal_for s xs = legal s (state_at xs)

-- substitutions are at most ticks, and one more while a report is awaited; none is awaited at the last tick, nor for a choice that is neither idle nor runnable
abbrev pub awaited_fits : Set → Run → Option ℕ → Bool
awaited_fits s r None = nat_le r.substitutions r.ticks
awaited_fits s r (Some c) = nat_lt r.ticks tick_limit && (nat_le r.substitutions (r.ticks + 1) && legal_for s r.states c)

-- a state fits the set
unfoldable pub fits : Set → Run → Bool
fits s r = nat_le r.ticks tick_limit && (awaited_fits s r r.awaited && all_below 7 (place_fits s r))

-- the answer of a start or a report in the paper's terms
abbrev pub said_taken : Result (Unit {0}) Refusal → Said
said_taken (Ok _) = answered []
said_taken (Err f) = refusing 0 f
