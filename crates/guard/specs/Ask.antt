-- Asking: the choice that the guard gives for a proposal, or why it gives none.
use Rattle.std.specs.Prelude.{ℕ, zero, suc, ◌+◌, ◌-◌, Bool, true, cond, not, ◌&&◌, List, [], ◌∷◌, Result, Some, Ok, Err, length, is_some, ◌==◌, nat_lt}
use Rattle.arena.specs.Tests.{all_below, imp}
use Rattle.tasks.specs.declared.sets.Set.{Set}
use Rattle.tasks.specs.declared.refusals.Refusal.{Refusal}
use Rattle.tasks.specs.declared.refusals.Reason.TheVariants.{BufferTooShort, StateDoesNotFit, OutOfTurn, TicksUsedUp, ProposalAboveCount, BadEntry}
use Rattle.tasks.specs.Refusals.{Said, answered, refusing}
use Rattle.tasks.specs.Sets.{task_at, test_set}
use Rattle.game.specs.declared.states.TaskState.{TaskState}
use Rattle.game.specs.States.{state_at, index_of}
use Rattle.shield.specs.Entries.{names, entry_at}
use Rattle.guard.specs.declared.runs.Run.{Run}
use Rattle.guard.specs.declared.runs.Answered.{Answered}
use Rattle.guard.specs.Runs.{tick_limit, refused, legal_for, fits}

-- an entry serves a state if it is not 0, and names only idle and runnable tasks
abbrev pub serves_for : Set → List TaskState → ℕ → ℕ → Bool
serves_for s xs e c = imp (names e c) (legal_for s xs c)

unfoldable pub serves : Set → List TaskState → ℕ → Bool
serves s xs e = not (e == 0) && all_below 8 (serves_for s xs e)

-- D minus age
abbrev pub slack : Set → List TaskState → ℕ → ℕ
slack s xs k = (task_at s k).deadline - (state_at xs k).age

-- task k + 1 has less D minus age than the best so far, or there is none, 0
abbrev pub closer : Set → List TaskState → ℕ → ℕ → Bool
closer s xs zero k = true
closer s xs (suc b) k = nat_lt (slack s xs k) (slack s xs b)

-- the better of the best so far and task k + 1, if that is allowed
unfoldable pub better : Set → List TaskState → ℕ → ℕ → ℕ → ℕ
better s xs e best k = cond (names e (k + 1) && closer s xs best k) (k + 1) best

-- of the first k tasks the allowed one with least D minus age, the lowest number on a tie, and idle if none is allowed
unfoldable pub substitute_to : Set → List TaskState → ℕ → ℕ → ℕ
substitute_to s xs e zero = 0
substitute_to s xs e (suc k) = better s xs e (substitute_to s xs e k) k

-- the proposal if the entry allows it, and otherwise the substitute
unfoldable pub choice_for : Set → List TaskState → ℕ → ℕ → ℕ
choice_for s xs e p = cond (names e p) p (substitute_to s xs e s.count)

-- the choice is given, a substitution is counted where it is not the proposal, and its report is awaited
unfoldable pub ask_given : Run → ℕ → ℕ → Answered ℕ
ask_given r p c = record {
  answer = Ok c;
  run = record {
    states = r.states;
    counts = r.counts;
    ticks = r.ticks;
    substitutions = cond (c == p) r.substitutions (r.substitutions + 1);
    reading = r.reading;
    awaited = Some c;
  };
}

-- 16, and then the choice
unfoldable pub ask_entry : Set → List ℕ → Run → ℕ → Answered ℕ
ask_entry s table r p =
    let i = index_of s r.states in
    let e = entry_at table i in
    cond (serves s r.states e) (ask_given r p (choice_for s r.states e p)) (refused r BadEntry i)

-- 21, 14, 20, 15
unfoldable pub ask_fits : Set → List ℕ → Run → ℕ → Answered ℕ
ask_fits s table r p =
    cond (not (fits s r)) (refused r StateDoesNotFit 0)
    (cond (is_some r.awaited) (refused r OutOfTurn 0)
    (cond (r.ticks == tick_limit) (refused r TicksUsedUp 0)
    (cond (nat_lt s.count p) (refused r ProposalAboveCount 0)
    (ask_entry s table r p))))

-- the set's own refusal, and then 7
abbrev pub ask_tested : Set → List ℕ → Run → ℕ → Result ℕ Refusal → Answered ℕ
ask_tested s table r p (Err f) = record { answer = Err f; run = r }
ask_tested s table r p (Ok S) = cond (nat_lt (length table) S) (refused r BufferTooShort S) (ask_fits s table r p)

-- what asking answers
abbrev pub ask_of : Set → List ℕ → Run → ℕ → Answered ℕ
ask_of s table r p = ask_tested s table r p (test_set s)

-- the answer in the paper's terms
abbrev pub said_chosen : Result ℕ Refusal → Said
said_chosen (Ok c) = answered (c ∷ [])
said_chosen (Err f) = refusing 1 f
