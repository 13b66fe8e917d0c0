-- What a command that sets a field makes of the set and of the run.
use Rattle.std.specs.Prelude.{Bool, cond, List, ℕ, ◌-◌, ◌%◌, eqb, get_or, set, drop, Option, Some, None}
use Rattle.commands.specs.Kinds as kind
use Rattle.tasks.specs.declared.sets.Task.{Task}
use Rattle.tasks.specs.declared.sets.Set.{Set}
use Rattle.tasks.specs.Sets.{within, no_task}
use Rattle.game.specs.declared.states.Job.TheVariants.{Empty, InHand}
use Rattle.game.specs.declared.states.TaskState.{TaskState}
use Rattle.game.specs.States.{no_state}
use Rattle.guard.specs.declared.runs.Counts.{Counts}
use Rattle.guard.specs.declared.runs.Run.{Run}
use Rattle.guard.specs.Runs.{no_counts}
use Rattle.desk_buffers.specs.Bytes.{put_at, said}

-- tasks are numbered 1 to 7
abbrev pub is_task : ℕ → Bool
is_task i = within 1 7 i

-- THE SET

-- a task's record with the field that a kind names
unfoldable pub task_with : ℕ → ℕ → Task → Task
task_with k v t =
    cond (eqb k kind.kind) (record { kind = v % 256; deadline = t.deadline; runs = t.runs; gaps = t.gaps })
    (cond (eqb k kind.deadline) (record { kind = t.kind; deadline = v % 256; runs = t.runs; gaps = t.gaps })
    (cond (eqb k kind.runs) (record { kind = t.kind; deadline = t.deadline; runs = v % 65536; gaps = t.gaps })
    (cond (eqb k kind.gaps) (record { kind = t.kind; deadline = t.deadline; runs = t.runs; gaps = v % 65536 }) t)))

-- the set with a field of task i's record
unfoldable pub task_set : ℕ → ℕ → ℕ → Set → Set
task_set k i v s =
    cond (is_task i)
    (record { name = s.name; count = s.count; tasks = set s.tasks (i - 1) (task_with k v (get_or s.tasks (i - 1) no_task)) })
    s

-- the set with the 16 bytes of a name that a word says
abbrev pub name_set : List ℕ → Set → Set
name_set w s = record { name = put_at 0 (said w 16 0) s.name; count = s.count; tasks = s.tasks }

abbrev pub count_set : ℕ → Set → Set
count_set v s = record { name = s.name; count = v % 256; tasks = s.tasks }

-- the set with the field that a kind names; the bytes of `name` stand behind its five first bytes
unfoldable pub set_with : ℕ → ℕ → ℕ → List ℕ → Set → Set
set_with k a b line s =
    cond (eqb k kind.name) (name_set (drop 5 line) s) (cond (eqb k kind.count) (count_set a s) (task_set k a b s))

-- THE RUN

-- a task's state with its age or its job
unfoldable pub state_with : ℕ → ℕ → TaskState → TaskState
state_with k v x =
    cond (eqb k kind.age) (record { age = v % 256; job = x.job })
    (cond (eqb k kind.job) (record { age = x.age; job = InHand (v % 256) })
    (cond (eqb k kind.no_job) (record { age = x.age; job = Empty }) x))

-- a task's counts with one of them
unfoldable pub counts_with : ℕ → ℕ → Counts → Counts
counts_with k v n =
    cond (eqb k kind.arrived) (record { arrived = v; finished = n.finished; replaced = n.replaced })
    (cond (eqb k kind.finished) (record { arrived = n.arrived; finished = v; replaced = n.replaced })
    (cond (eqb k kind.replaced) (record { arrived = n.arrived; finished = n.finished; replaced = v }) n))

-- the run with a field of task i's place
unfoldable pub place_set : ℕ → ℕ → ℕ → Run → Run
place_set k i v r =
    cond (is_task i)
    (record {
      states = set r.states (i - 1) (state_with k v (get_or r.states (i - 1) no_state));
      counts = set r.counts (i - 1) (counts_with k v (get_or r.counts (i - 1) no_counts));
      ticks = r.ticks;
      substitutions = r.substitutions;
      reading = r.reading;
      awaited = r.awaited;
    })
    r

abbrev pub awaited_set : Option ℕ → Run → Run
awaited_set w r = record { states = r.states; counts = r.counts; ticks = r.ticks; substitutions = r.substitutions; reading = r.reading; awaited = w }

abbrev pub ticks_set : ℕ → Run → Run
ticks_set v r = record { states = r.states; counts = r.counts; ticks = v; substitutions = r.substitutions; reading = r.reading; awaited = r.awaited }

abbrev pub substitutions_set : ℕ → Run → Run
substitutions_set v r = record { states = r.states; counts = r.counts; ticks = r.ticks; substitutions = v; reading = r.reading; awaited = r.awaited }

abbrev pub reading_set : ℕ → Run → Run
reading_set v r = record { states = r.states; counts = r.counts; ticks = r.ticks; substitutions = r.substitutions; reading = v; awaited = r.awaited }

-- the run with the field that a kind names
unfoldable pub run_with : ℕ → ℕ → ℕ → Run → Run
run_with k a b r =
    cond (eqb k kind.ticks) (ticks_set a r)
    (cond (eqb k kind.substitutions) (substitutions_set a r)
    (cond (eqb k kind.reading) (reading_set a r)
    (cond (eqb k kind.awaited) (awaited_set (Some (a % 256)) r)
    (cond (eqb k kind.nothing_awaited) (awaited_set None r)
    (place_set k a b r)))))
