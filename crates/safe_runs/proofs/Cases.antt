-- What each call answers, case by case, in the order in which it looks for a refusal. Assumes nothing.
use mathlib.Core.Path.{◌≡◌, refl}
use mathlib.Core.Logic.{⊎_elim}
use mathlib.Core.Bool.{Bool, true, false, not}
use mathlib.Core.List.{List}
use Prim.Native.Nat.{ℕ, suc, ◌≤◌, ◌<◌}
use native.Mathlib.Omega.{arith}
use lib.Dec.{T, T_not, eqb, ltb, eqb→eq, ltb→lt, nltb→le}
use lib.ListN.{length}
use Rattle.std.specs.Prelude.{Option, Some, None, Result, Ok, Err, is_some}
use Rattle.arena.specs.Tests.{any_below, first}
use Rattle.arena.proofs.Tests.{decide, by_cond, nor, not_not, T_true, T_false, any_below_by, first_hit, first_least}
use Rattle.tasks.specs.declared.refusals.Refusal.{Refusal}
use Rattle.tasks.specs.declared.sets.Set.{Set}
use Rattle.tasks.specs.declared.refusals.Reason.TheVariants.{BufferTooShort, StateDoesNotFit, OutOfTurn, TicksUsedUp, ProposalAboveCount, BadEntry, WrongReading, ImpossibleOutcome, HardMiss}
use Rattle.tasks.specs.Sets.{test_set, Passed}
use Rattle.tasks.proofs.Valid.{passed}
use Rattle.game.specs.declared.states.TaskState.{TaskState}
use Rattle.game.specs.States.{index_of}
use Rattle.shield.specs.Entries.{entry_at}
use Rattle.guard.specs.declared.runs.Run.{Run}
use Rattle.guard.specs.declared.runs.Answered.{Answered}
use Rattle.guard.specs.declared.reports.Outcome.{Outcome}
use Rattle.guard.specs.Runs.{tick_limit, refused, fits}
use Rattle.guard.specs.Ask.{serves, choice_for, ask_given, ask_entry, ask_fits, ask_tested, ask_of}
use Rattle.guard.specs.Report.{next_reading, tick_at, is_impossible, is_missed, strays, impossible, run_after, report_possible, report_named, report_awaited, report_tested, report_of}

-- the entry of a run's own index
abbrev pub own : Set → List ℕ → Run → ℕ
own s table r = entry_at table (index_of s r.states)

-- a set that passes is not refused
pub not_refused : (s : Set) → Passed s → (f : Refusal) → test_set s ≡ Err f → ⊥
not_refused s q f e = let z : ◌≡◌ {A = ℕ} 0 1 = cc in omega arith

-- what an ask that is answered has found
pub record Ready (s : Set) (table : List ℕ) (r : Run) (p : ℕ) : Type 0 where
  pub set : Passed s
  pub fits : T (fits s r)
  pub free : T (not (is_some r.awaited))
  pub more : T (not (eqb r.ticks tick_limit))
  pub within : p ≤ s.count
  pub serves : T (serves s r.states (own s table r))

-- AN ASK: the set's own refusal, 7, 21, 14, 20, 15, 16, or the choice
module _ (s : Set) (table : List ℕ) (r : Run) (p : ℕ) (P : Answered ℕ → Type 0) where
  pub ask_case : ((f : Refusal) → test_set s ≡ Err f → P (record { answer = Err f; run = r }))
      → ((n : ℕ) → test_set s ≡ Ok n → length table < n → P (refused r BufferTooShort n))
      → (T (not (fits s r)) → P (refused r StateDoesNotFit 0))
      → (T (is_some r.awaited) → P (refused r OutOfTurn 0))
      → (T (eqb r.ticks tick_limit) → P (refused r TicksUsedUp 0))
      → (s.count < p → P (refused r ProposalAboveCount 0))
      → (T (not (serves s r.states (own s table r))) → P (refused r BadEntry (index_of s r.states)))
      → (Ready s table r p → P (ask_given r p (choice_for s r.states (own s table r) p)))
      → P (ask_of s table r p)
  unfolding ask_fits ask_entry
  ask_case fault short unfit turn used above bad given = by (test_set s) refl
    where
      by : (t : Result ℕ Refusal) → test_set s ≡ t → P (ask_tested s table r p t)
      by (Err f) e = fault f e
      by (Ok n) e =
          by_cond P (ltb (length table) n) _ _ (λ h. short n e (ltb→lt (length table) n h))
          (λ _. by_cond P (not (fits s r)) _ _ unfit
          (λ f. by_cond P (is_some r.awaited) _ _ turn
          (λ a. by_cond P (eqb r.ticks tick_limit) _ _ used
          (λ b. by_cond P (ltb s.count p) _ _ (λ c. above (ltb→lt s.count p c))
          (λ c. by_cond P (serves s r.states (own s table r)) _ _
          (λ d. given (record { set = passed s n e; fits = not_not (fits s r) f; free = a; more = b; within = nltb→le s.count p c; serves = d }))
          bad)))))

-- the lowest task whose tick is a miss, and that there is none
pub record Misses (s : Set) (xs : List TaskState) (o : Outcome) (k : ℕ) : Type 0 where
  pub within : k < s.count
  pub missed : is_missed (tick_at s xs o k) ≡ true
  pub lowest : (j : ℕ) → j < k → is_missed (tick_at s xs o j) ≡ false

abbrev pub NoMiss : Set → List TaskState → Outcome → Type 0
NoMiss s xs o = (j : ℕ) → j < s.count → is_missed (tick_at s xs o j) ≡ false

-- A REPORT WITH THE NEXT READING: 18, 19, or the run after it
module _ (s : Set) (r : Run) (o : Outcome) (P : Answered (Unit {0}) → Type 0) where
  pub named_case : (T (impossible s r.states o) → P (refused r ImpossibleOutcome 0))
      → (T (not (impossible s r.states o)) → (k : ℕ) → Misses s r.states o k → P (refused r HardMiss (suc k)))
      → (T (not (impossible s r.states o)) → NoMiss s r.states o → P (record { answer = Ok tt; run = run_after s r o }))
      → P (report_named s r o)
  unfolding report_named
  named_case a b c =
      by_cond P (impossible s r.states o) _ _ a
      (λ t. by_cond (λ (m : Option ℕ). P (report_possible s r o m)) (ltb k s.count) (Some k) None
      (λ l. b t k (record {
        within = ltb→lt k s.count l;
        missed = T_true _ (first_hit miss s.count 0 (omega (arith, ltb→lt k s.count l)));
        lowest = λ j h. T_false _ (first_least miss s.count 0 j (omega arith) h);
      }))
      (λ l. c t (λ j h. T_false _ (first_least miss s.count 0 j (omega arith) (omega (arith, nltb→le k s.count l))))))
    where
      miss : ℕ → Bool
      miss j = is_missed (tick_at s r.states o j)

      k : ℕ
      k = first miss s.count 0

-- A REPORT: the set's own refusal, 21, 14, 17, or what one with the next reading answers
module _ (s : Set) (r : Run) (reading : ℕ) (finished : Bool) (arrivals : ℕ) (P : Answered (Unit {0}) → Type 0) where
  pub report_case : ((f : Refusal) → test_set s ≡ Err f → P (record { answer = Err f; run = r }))
      → (T (not (fits s r)) → P (refused r StateDoesNotFit 0))
      → P (refused r OutOfTurn 0)
      → P (refused r WrongReading 0)
      → ((c : ℕ) → r.awaited ≡ Some c → reading ≡ next_reading r.reading → P (report_named s r (record { choice = c; finished = finished; arrivals = arrivals })))
      → P (report_of s r reading finished arrivals)
  report_case fault unfit turn wrong named = tested (test_set s) refl
    where
      awaited : (a : Option ℕ) → r.awaited ≡ a → P (report_awaited s r reading finished arrivals a)
      awaited None e = turn
      awaited (Some c) e =
          by_cond P (eqb reading (next_reading r.reading)) _ _ (λ t. named c e (eqb→eq reading (next_reading r.reading) t)) (λ _. wrong)

      tested : (t : Result ℕ Refusal) → test_set s ≡ t → P (report_tested s r reading finished arrivals t)
      tested (Err f) e = fault f e
      tested (Ok n) e = by_cond P (fits s r) _ _ (λ _. awaited r.awaited refl) unfit

-- an outcome that is possible is so for each task
pub possible_none : (s : Set) (xs : List TaskState) (o : Outcome) → T (not (impossible s xs o)) → (j : ℕ) → j < s.count → is_impossible (tick_at s xs o j) ≡ false
unfolding impossible
possible_none s xs o t j h =
    let f : ℕ → Bool = λ k. is_impossible (tick_at s xs o k) in
    T_false (f j) (⊎_elim (λ p. absurd (T_not (any_below s.count f) (nor (strays s o) _ t).1 (any_below_by s.count f j h p))) (λ q. q) (decide (f j)))
