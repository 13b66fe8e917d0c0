-- What calls on a run keep: it fits and its sums hold; an ask is answered by the guard; a refused call changes nothing, and a refused start is a run of zeros. Assumes nothing.
use mathlib.Core.Path.{◌≡◌, refl, sym, ap, subst, ◌∙◌}
use mathlib.Core.Bool.{not}
use mathlib.Core.List.{List, [], ◌∷◌}
use Prim.Native.Nat.{ℕ, suc, ◌+◌, ◌≤◌, ◌<◌}
use native.Mathlib.Omega.{arith}
use lib.Dec.{T, T_not}
use lib.ListN.{get_or}
use Rattle.std.specs.Prelude.{Result, None, Ok, Err}
use Rattle.arena.specs.Tests.{one}
use Rattle.tasks.specs.declared.sets.Set.{Set}
use Rattle.tasks.specs.declared.refusals.Refusal.{Refusal}
use Rattle.tasks.specs.Refusals.{Said, answered, state_does_not_fit}
use Rattle.tasks.specs.Sets.{states_of, test_set, Passed}
use Rattle.tasks.proofs.Valid.{refused_number}
use Rattle.game.specs.States.{no_state, state_at}
use Rattle.game.specs.Ticks.{in_hand}
use Rattle.shield.specs.Entries.{names, Bytes}
use Rattle.guard.specs.declared.runs.Run.{Run}
use Rattle.guard.specs.declared.runs.Answered.{Answered}
use Rattle.guard.specs.Runs.{seven, no_counts, counts_at, start_run, start_tested, start_of, legal_for, fits, said_taken}
use Rattle.guard.specs.Ask.{choice_for, ask_given, ask_of, said_chosen}
use Rattle.guard.specs.Calls.{Call, ask, report, said_by, run_by, reached}
use Rattle.guard.proofs.RunLaws.{Fits, fits_at, fits_by, index_fits}
use Rattle.safe_runs.proofs.Cases.{own, not_refused, ask_case, named_case, report_case}
use Rattle.safe_runs.proofs.Fitting.{count_le, reached_fit}
use Rattle.safe_runs.proofs.Guarded.{Found, choice_back, choice_other, choice_legal, choice_named}

-- a call on a run that fits is not refused with 21
no_21 : (s : Set) → Passed s → (table : List ℕ) (r : Run) → Fits s r → (c : Call) → (said_by s table r c).number ≡ state_does_not_fit → ⊥
unfolding ask_given
no_21 s q table r w (ask p) =
    ask_case s table r p (λ a. (said_chosen a.answer).number ≡ state_does_not_fit → ⊥)
    (λ f e. absurd (not_refused s q f e)) (λ _ _ _ z. omega arith) (λ t. absurd (T_not (fits s r) t (fits_by s r w)))
    (λ _ z. omega arith) (λ _ z. omega arith) (λ _ z. omega arith) (λ _ z. omega arith) (λ _ z. omega arith)
no_21 s q table r w (report reading finished arrivals) =
    report_case s r reading finished arrivals (λ a. (said_taken a.answer).number ≡ state_does_not_fit → ⊥)
    (λ f e. absurd (not_refused s q f e)) (λ t. absurd (T_not (fits s r) t (fits_by s r w))) (λ z. omega arith) (λ z. omega arith)
    (λ c e _. named_case s r _ (λ a. (said_taken a.answer).number ≡ state_does_not_fit → ⊥) (λ _ z. omega arith) (λ _ _ _ z. omega arith) (λ _ _ z. omega arith))

-- SUMS: after any calls from the start, with any table
module _ (s : Set) (q : Passed s) (table : List ℕ) (reading : ℕ) (cs : List Call) where
  -- the run fits
  pub reached_fits : T (fits s (reached s table reading cs))
  reached_fits = fits_by s _ (reached_fit s q table reading cs)

  -- arrived is finished plus replaced plus the job in hand
  pub sums : (k : ℕ) → k < s.count
      → let r = reached s table reading cs in let n = counts_at r.counts k in n.arrived ≡ n.finished + n.replaced + one (in_hand (state_at r.states k).job)
  sums k h = ((reached_fit s q table reading cs).tasks k h).sum

  -- and no call on it is refused with 21
  pub no_misfit : (c : Call) → (said_by s table (reached s table reading cs) c).number ≡ state_does_not_fit → ⊥
  no_misfit = no_21 s q table (reached s table reading cs) (reached_fit s q table reading cs)

-- GUARD: an ask that is answered gives an allowed proposal back and else the best substitute, counts a substitution where it is not the
-- proposal, and awaits the choice that it gave; the choice is idle or runnable, and the entry, a byte, allows it, idle too
pub record Guards (s : Set) (table : List ℕ) (r : Run) (p c : ℕ) (after : Run) : Type 0 where
  pub legal : T (legal_for s r.states c)
  pub allowed : Bytes (states_of s) table → T (names (own s table r) c)
  pub back : T (names (own s table r) p) → c ≡ p
  pub other : T (not (names (own s table r) p)) → Found s r.states (own s table r) s.count c
  pub run : after ≡ (ask_given r p c).run

pub asked : (s : Set) (table : List ℕ) (r : Run) (p c : ℕ) → said_chosen (ask_of s table r p).answer ≡ answered (c ∷ []) → Guards s table r p c (ask_of s table r p).run
unfolding ask_given
asked s table r p c =
    ask_case s table r p (λ a. said_chosen a.answer ≡ answered (c ∷ []) → Guards s table r p c a.run)
    (λ f e z. absurd (omega (arith, (refused_number s f e).0, ap (λ a. a.number) z)))
    (λ _ _ _ z. absurd (no refl z)) (λ _ z. absurd (no refl z)) (λ _ z. absurd (no refl z)) (λ _ z. absurd (no refl z)) (λ _ z. absurd (no refl z)) (λ _ z. absurd (no refl z))
    (λ d z. let e = own s table r in let k : choice_for s r.states e p ≡ c = ap (λ a. get_or a.values 0 0) z in
    let v = count_le s d.set in let l : p ≤ 7 = omega (arith, d.within) in record {
      legal = subst (λ (c : ℕ). T (legal_for s r.states c)) k (choice_legal s r.states e p l v d.serves);
      allowed = λ b. subst (λ (c : ℕ). T (names e c)) k (choice_named s r.states e p l v d.serves (b _ (index_fits s r (fits_at s r v d.fits)))).0;
      back = λ t. sym k ∙ choice_back s r.states e p t;
      other = λ t. subst (λ (c : ℕ). Found s r.states e s.count c) k (choice_other s r.states e p t);
      run = ap (λ c. (ask_given r p c).run) k;
    })
  where
    no : {a : Said} {n : ℕ} → a.number ≡ suc n → a ≡ answered (c ∷ []) → ⊥
    no e z = omega (arith, e, ap (λ a. a.number) z)

-- A REFUSED CALL RETURNS THE RUN AS IT WAS GIVEN, for any set, table and run
module _ (s : Set) (table : List ℕ) (r : Run) where
  pub refused_keeps : (c : Call) → ((said_by s table r c).number ≡ 0 → ⊥) → run_by s table r c ≡ r
  unfolding ask_given
  refused_keeps (ask p) =
      ask_case s table r p (λ (a : Answered ℕ). ((said_chosen a.answer).number ≡ 0 → ⊥) → a.run ≡ r)
      (λ _ _ _. refl) (λ _ _ _ _. refl) (λ _ _. refl) (λ _ _. refl) (λ _ _. refl) (λ _ _. refl) (λ _ _. refl) (λ _ z. absurd (z refl))
  refused_keeps (report reading finished arrivals) =
      report_case s r reading finished arrivals (λ (a : Answered (Unit {0})). ((said_taken a.answer).number ≡ 0 → ⊥) → a.run ≡ r)
      (λ _ _ _. refl) (λ _ _. refl) (λ _. refl) (λ _. refl)
      (λ c e _. named_case s r _ (λ (a : Answered (Unit {0})). ((said_taken a.answer).number ≡ 0 → ⊥) → a.run ≡ r) (λ _ _. refl) (λ _ _ _ _. refl) (λ _ _ z. absurd (z refl)))

-- A REFUSED START RETURNS A RUN OF ZEROS with no job, and nothing is awaited
abbrev pub no_run : Run
no_run = record {
  states = seven (λ _. no_state);
  counts = seven (λ _. no_counts);
  ticks = 0;
  substitutions = 0;
  reading = 0;
  awaited = None;
}

pub refused_zeros : (s : Set) (reading : ℕ) → ((said_taken (start_of s reading).answer).number ≡ 0 → ⊥) → (start_of s reading).run ≡ no_run
unfolding start_run
refused_zeros s reading = by (test_set s)
  where
    by : (t : Result ℕ Refusal) → ((said_taken (start_tested s reading t).answer).number ≡ 0 → ⊥) → (start_tested s reading t).run ≡ no_run
    by (Err f) z = refl
    by (Ok n) z = absurd (z refl)
