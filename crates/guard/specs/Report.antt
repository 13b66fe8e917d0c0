-- Reporting: what a report names, and the run after it, or why it is not taken.
use Rattle.std.specs.Prelude.{ℕ, zero, suc, ◌+◌, ◌/◌, ◌%◌, ◌^◌, Bool, true, false, cond, not, ◌&&◌, ◌||◌, List, [], ◌∷◌, ◌++◌, Option, Some, None, Result, Ok, Err, ◌==◌, nat_lt, slice_index_or}
use Rattle.arena.specs.Tests.{any_below, first, one}
use Rattle.tasks.specs.declared.sets.Set.{Set}
use Rattle.tasks.specs.declared.refusals.Refusal.{Refusal}
use Rattle.tasks.specs.declared.refusals.Reason.TheVariants.{StateDoesNotFit, OutOfTurn, WrongReading, ImpossibleOutcome, HardMiss}
use Rattle.tasks.specs.Sets.{task_at, test_set}
use Rattle.game.specs.declared.states.TaskState.{TaskState}
use Rattle.game.specs.declared.ticks.Ticked.{Ticked}
use Rattle.game.specs.declared.ticks.Ticked.TheVariants.{Impossible, Missed, Next}
use Rattle.game.specs.States.{state_at}
use Rattle.game.specs.declared.ticks.Flags.{Flags}
use Rattle.game.specs.Ticks.{flagged, in_hand, tick_of}
use Rattle.game.specs.Game.{Seen}
use Rattle.shield.specs.Entries.{names}
use Rattle.guard.specs.declared.runs.Counts.{Counts}
use Rattle.guard.specs.declared.runs.Run.{Run}
use Rattle.guard.specs.declared.runs.Answered.{Answered}
use Rattle.guard.specs.declared.reports.Outcome.{Outcome}
use Rattle.guard.specs.Runs.{seven, counts_at, refused, fits}

-- the next reading: it rolls over to zero
abbrev pub next_reading : ℕ → ℕ
next_reading reading = (reading + 1) % 2 ^ 32

-- what an outcome says of task k + 1: the run job finished, and bit k of the arrivals
abbrev pub flags_at : Outcome → ℕ → Flags
flags_at o k = flagged (o.choice == suc k && o.finished) (names o.arrivals k)

-- what is seen of the generator in an outcome: the flags of the first k tasks, task 1 first
unfoldable pub seen_to : Outcome → ℕ → Seen
seen_to o zero = []
seen_to o (suc k) = seen_to o k ++ (flags_at o k ∷ [])

-- what the tick comes to for task k + 1
unfoldable pub tick_at : Set → List TaskState → Outcome → ℕ → Ticked
tick_at s xs o k = tick_of (task_at s k) (o.choice == suc k) (state_at xs k) (flags_at o k)

-- a place of what the ticks come to
abbrev pub ticked : List Ticked → ℕ → Ticked
ticked ts k = slice_index_or ts k Impossible

-- a tick that is not possible, and a miss
abbrev pub is_impossible : Ticked → Bool
is_impossible Impossible = true
is_impossible Missed = false
is_impossible (Next y) = false

abbrev pub is_missed : Ticked → Bool
is_missed Impossible = false
is_missed Missed = true
is_missed (Next y) = false

-- the lowest task, from 0, whose tick is a miss
abbrev pub first_missed : Set → List TaskState → Outcome → Option ℕ
first_missed s xs o =
    let m = first (λ k. is_missed (tick_at s xs o k)) s.count 0 in
    cond (nat_lt m s.count) (Some m) None

-- a job said to have finished though none was run, or an arrival bit above task n
unfoldable pub strays : Set → Outcome → Bool
strays s o = (o.finished && o.choice == 0) || not (o.arrivals / 2 ^ s.count == 0)

-- that, or a tick that is not possible
unfoldable pub impossible : Set → List TaskState → Outcome → Bool
impossible s xs o = strays s o || any_below s.count (λ k. is_impossible (tick_at s xs o k))

-- the state of a task after its tick
abbrev pub state_after : TaskState → Ticked → TaskState
state_after x Impossible = x
state_after x Missed = x
state_after x (Next y) = y

-- its counts: a job still in hand when the next arrives is replaced
abbrev pub counts_after : TaskState → Counts → Flags → Counts
counts_after x n f = record {
  arrived = n.arrived + one f.arrives;
  finished = n.finished + one f.finishes;
  replaced = n.replaced + one (f.arrives && (in_hand x.job && not f.finishes));
}

-- the state and the counts in place k after an outcome: those of a task move
unfoldable pub state_then : Set → List TaskState → Outcome → ℕ → TaskState
state_then s xs o k = cond (nat_lt k s.count) (state_after (state_at xs k) (tick_at s xs o k)) (state_at xs k)

unfoldable pub counts_then : Set → List TaskState → List Counts → Outcome → ℕ → Counts
counts_then s xs ns o k = cond (nat_lt k s.count) (counts_after (state_at xs k) (counts_at ns k) (flags_at o k)) (counts_at ns k)

-- the run after an outcome: every place moved, a tick more
unfoldable pub run_after : Set → Run → Outcome → Run
run_after s r o = record {
  states = seven (state_then s r.states o);
  counts = seven (counts_then s r.states r.counts o);
  ticks = r.ticks + 1;
  substitutions = r.substitutions;
  reading = next_reading r.reading;
  awaited = None;
}

-- 19 at the lowest task that misses
abbrev pub report_possible : Set → Run → Outcome → Option ℕ → Answered (Unit {0})
report_possible s r o (Some k) = refused r HardMiss (suc k)
report_possible s r o None = record { answer = Ok tt; run = run_after s r o }

-- 18 for any task, and then 19
unfoldable pub report_named : Set → Run → Outcome → Answered (Unit {0})
report_named s r o =
    cond (impossible s r.states o) (refused r ImpossibleOutcome 0)
    (report_possible s r o (first_missed s r.states o))

-- 14, 17
abbrev pub report_awaited : Set → Run → ℕ → Bool → ℕ → Option ℕ → Answered (Unit {0})
report_awaited s r reading finished arrivals None = refused r OutOfTurn 0
report_awaited s r reading finished arrivals (Some c) =
    cond (reading == next_reading r.reading)
    (report_named s r (record { choice = c; finished = finished; arrivals = arrivals }))
    (refused r WrongReading 0)

-- the set's own refusal, and then 21
abbrev pub report_tested : Set → Run → ℕ → Bool → ℕ → Result ℕ Refusal → Answered (Unit {0})
report_tested s r reading finished arrivals (Err f) = record { answer = Err f; run = r }
report_tested s r reading finished arrivals (Ok S) =
    cond (fits s r) (report_awaited s r reading finished arrivals r.awaited) (refused r StateDoesNotFit 0)

-- what reporting answers
abbrev pub report_of : Set → Run → ℕ → Bool → ℕ → Answered (Unit {0})
report_of s r reading finished arrivals = report_tested s r reading finished arrivals (test_set s)
