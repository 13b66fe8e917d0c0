-- Safe runs: with a table that passes the test, no hard job can miss, no ask is refused with 16, no report with 19, and no call with 21. Assumes nothing.
use mathlib.Core.Path.{◌≡◌, refl, sym, ap, subst, ◌∙◌}
use mathlib.Core.Logic.{⊎_elim}
use mathlib.Core.List.{List, [], ◌∷◌}
use Prim.Native.Nat.{ℕ, ◌≤◌, ◌<◌}
use native.Mathlib.Omega.{arith}
use lib.Dec.{T, eqb→eq, T_not}
use Rattle.std.specs.Prelude.{Some, None, is_some}
use Rattle.arena.specs.Tests.{◌∈◌}
use Rattle.arena.specs.Arena.{miss, go, Outcome}
use Rattle.tasks.specs.declared.sets.Set.{Set}
use Rattle.tasks.specs.Refusals.{answered}
use Rattle.tasks.specs.Sets.{states_of, Passed}
use Rattle.game.specs.States.{index_of}
use Rattle.game.specs.Game.{Seen, arena_of}
use Rattle.shield.specs.Entries.{Bytes}
use Rattle.shield.proofs.Tested.{Tried, passes_tried, said_passes}
use Rattle.promises.proofs.Shield.{TestPasses}
use Rattle.guard.specs.declared.runs.Run.{Run}
use Rattle.guard.specs.declared.runs.Answered.{Answered}
use Rattle.guard.specs.Runs.{tick_limit, start_run, start_of, fits, said_taken}
use Rattle.guard.specs.Ask.{serves, choice_for, ask_given, ask_of, said_chosen}
use Rattle.guard.specs.Report.{next_reading, report_of}
use Rattle.guard.specs.Calls.{Call, said_by, reached, Clean}
use Rattle.guard.proofs.RunLaws.{fits_by}
use Rattle.safe_runs.proofs.Cases.{own, not_refused, ask_case}
use Rattle.safe_runs.proofs.Fitting.{count_le, start_run_lem}
use Rattle.safe_runs.proofs.Told.{finished_in, arrivals_in}
use Rattle.safe_runs.proofs.Moves.{moves, one_report}
use Rattle.safe_runs.proofs.Good.{Good, fresh_index, good_serves, good_outcomes, good_call, good_reached}

-- a report is accepted, and takes the run to the outcome o
pub record Accepted (s : Set) (o : Outcome Seen) (a : Answered (Unit {0})) : Type 0 where
  pub answer : said_taken a.answer ≡ answered []
  pub next : o.next ≡ go (index_of s a.run.states)

-- a run that is safe with its table
pub record SafeRun (s : Set) (table : List ℕ) (r : Run) : Type 0 where
  -- no call on it is refused with 16, 19 or 21
  pub clean : (c : Call) → Clean (said_by s table r c)
  -- no outcome of the choice that it awaits is a miss
  pub no_miss : (c : ℕ) → r.awaited ≡ Some c → (o : Outcome Seen) → o ∈ (arena_of s).outs (index_of s r.states) c → o.next ≡ miss → ⊥
  -- and the report of each, with the next reading, is accepted
  pub reports : (c : ℕ) → r.awaited ≡ Some c → (o : Outcome Seen) → o ∈ (arena_of s).outs (index_of s r.states) c
      → Accepted s o (report_of s r (next_reading r.reading) (finished_in o.seen c) (arrivals_in o.seen s.count))
  -- up to the tick limit every ask with nothing awaited and a proposal of at most n is answered
  pub answers : (p : ℕ) → p ≤ s.count → r.awaited ≡ None → r.ticks < tick_limit
      → (c : ℕ) × (said_chosen (ask_of s table r p).answer ≡ answered (c ∷ []))

-- so after any calls from the start
abbrev pub SafeRuns : Set → List ℕ → Type 0
SafeRuns s table = (reading : ℕ) (cs : List Call) → SafeRun s table (reached s table reading cs)

-- THE START: a run that has started stands on index 0
pub start_index : (s : Set) → Passed s → (reading : ℕ) → index_of s (start_of s reading).run.states ≡ 0
unfolding start_run
start_index s q reading = ap (λ (r : Run). index_of s r.states) (start_run_lem s q reading) ∙ fresh_index s (count_le s q) s.count (omega arith)

-- a run on states where a table that passed is used
module _ (s : Set) (table : List ℕ) (w : Tried s table) (b : Bytes (states_of s) table) (r : Run) (g : Good s table r) where
  good_reports : (c : ℕ) → r.awaited ≡ Some c → (o : Outcome Seen) → o ∈ (arena_of s).outs (index_of s r.states) c
      → Accepted s o (report_of s r (next_reading r.reading) (finished_in o.seen c) (arrivals_in o.seen s.count))
  good_reports c e o m =
      let f = fits_by s r g.fits in
      let n = one_report s w.set r f c e o m in
      let same = ap (λ (o : Outcome Seen). o.next) n.2 in
      ⊎_elim
      (λ t. record { answer = t.answer; next = sym same ∙ t.next })
      (λ t. absurd (good_outcomes s table w b r g c e o m (sym same ∙ t.next)))
      (moves s w.set r f c e (finished_in o.seen c) (arrivals_in o.seen s.count) n.0).1

  good_answers : (p : ℕ) → p ≤ s.count → r.awaited ≡ None → r.ticks < tick_limit → (c : ℕ) × (said_chosen (ask_of s table r p).answer ≡ answered (c ∷ []))
  unfolding ask_given
  good_answers p l e m =
      ask_case s table r p (λ a. (c : ℕ) × (said_chosen a.answer ≡ answered (c ∷ [])))
      (λ f z. absurd (not_refused s w.set f z))
      (λ n z h. let k : states_of s ≡ n = cc w.set in absurd (omega (arith, w.long)))
      (λ z. absurd (T_not (fits s r) z (fits_by s r g.fits)))
      (λ z. absurd (subst (λ a. T (is_some a)) e z))
      (λ z. absurd (omega (arith, eqb→eq r.ticks tick_limit z)))
      (λ z. absurd (omega arith))
      (λ z. absurd (T_not (serves s r.states (own s table r)) z (good_serves s table w b r g)))
      (λ _. (choice_for s r.states (own s table r) p, refl))

-- SAFE RUNS: for every table that the tester passes
pub safe_runs : (s : Set) (table : List ℕ) → Bytes (states_of s) table → TestPasses s table → SafeRuns s table
safe_runs s table b p reading cs =
    let w = passes_tried s table (said_passes s table p) in
    let r = reached s table reading cs in
    let g = good_reached s table w b reading cs in
    record {
      clean = λ c. (good_call s table w b r g c).1;
      no_miss = good_outcomes s table w b r g;
      reports = good_reports s table w b r g;
      answers = good_answers s table w b r g;
    }
