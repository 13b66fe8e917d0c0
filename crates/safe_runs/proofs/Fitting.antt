-- A run fits at the start, and a call on a run that fits returns one that fits. Assumes nothing.
use mathlib.Core.Path.{◌≡◌, refl, sym, ap, subst, ◌∙◌}
use mathlib.Core.Bool.{Bool, true, false, not, cond}
use mathlib.Core.List.{List, [], ◌∷◌}
use Prim.Native.Nat.{ℕ, suc, ◌+◌, ◌≤◌, ◌<◌}
use native.Mathlib.Omega.{arith}
use lib.Dec.{T, eqb, leb, ltb, leb→le, lt→ltb}
use lib.ListN.{get_or}
use borrow.Author.Tests.{lt-ltb, le-ltb, le-leb, eqb-false}
use Rattle.std.specs.Prelude.{Option, Some, None, is_some}
use Rattle.arena.proofs.Tests.{T_false, and_by}
use Rattle.tasks.specs.declared.sets.Task.{Task}
use Rattle.tasks.specs.declared.sets.Set.{Set}
use Rattle.tasks.specs.Sets.{cmax, amax, task_at, Passed}
use Rattle.tasks.proofs.ListLaws.{longest_pos}
use Rattle.tasks.specs.Valid.{ValidTask}
use Rattle.tasks.proofs.Valid.{passed_valid}
use Rattle.game.specs.declared.states.TaskState.{TaskState}
use Rattle.game.specs.States.{in_range, no_state, state_at}
use Rattle.guard.specs.declared.runs.Counts.{Counts}
use Rattle.guard.specs.declared.runs.Run.{Run}
use Rattle.guard.specs.declared.reports.Outcome.{Outcome}
use Rattle.guard.specs.Runs.{tick_limit, seven, fresh_state, fresh_counts, no_counts, counts_at, start_run, start_of, start_tested, place_empty, legal_for, awaited_fits}
use Rattle.guard.specs.Ask.{ask_given, ask_of}
use Rattle.guard.specs.Report.{flags_at, tick_at, impossible, state_after, counts_after, state_then, counts_then, run_after}
use Rattle.guard.specs.Calls.{Call, ask, report, run_by, run_from, reached}
use Rattle.guard.proofs.RunLaws.{seven_at, Fit, Fits, few_substitutions, open_ticks}
use Rattle.safe_runs.proofs.Cases.{NoMiss, ask_case, named_case, report_case, possible_none}
use Rattle.safe_runs.proofs.Guarded.{choice_legal}
use Rattle.safe_runs.proofs.TickSums.{fit_tick}

-- seven places, f for the first n and g beyond them
abbrev pub placed : {A : Type 0} → ℕ → (ℕ → A) → (ℕ → A) → List A
placed n f g = seven (λ k. cond (ltb k n) (f k) (g k))

module _ {A : Type 0} (d : A) (n : ℕ) (f g : ℕ → A) (k : ℕ) (l : k < 7) where
  pub place_task : k < n → get_or (placed n f g) k d ≡ f k
  place_task h = seven_at d (λ k. cond (ltb k n) (f k) (g k)) k l ∙ ap (λ b. cond b (f k) (g k)) (lt-ltb k n h)

  place_rest : n ≤ k → get_or (placed n f g) k d ≡ g k
  place_rest h = seven_at d (λ k. cond (ltb k n) (f k) (g k)) k l ∙ ap (λ b. cond b (f k) (g k)) (le-ltb k n h)

-- places with the same state and counts fit together
fit_same : {τ : Task} {ticks : ℕ} (x y : TaskState) (m n : Counts) → x ≡ y → m ≡ n → Fit τ ticks y n → Fit τ ticks x m
fit_same {τ} {ticks} x y m n e f w = subst (λ (x : TaskState). Fit τ ticks x m) (sym e) (subst (λ (m : Counts). Fit τ ticks y m) (sym f) w)

empty_same : (x y : TaskState) (m n : Counts) → x ≡ y → m ≡ n → T (place_empty y n) → T (place_empty x m)
empty_same x y m n e f w = subst (λ (x : TaskState). T (place_empty x m)) (sym e) (subst (λ (m : Counts). T (place_empty y m)) (sym f) w)

-- THE START
fresh_fit : (τ : Task) → ValidTask τ → Fit τ 0 fresh_state fresh_counts
unfolding in_range
fresh_fit τ v = record {
  range = and_by (ltb 0 (amax τ)) (ltb 0 (cmax τ)) (lt→ltb 0 (amax τ) (longest_pos τ.gaps v.gaps)) (lt→ltb 0 (cmax τ) (longest_pos τ.runs v.runs));
  sum = refl;
  some = omega arith;
  few = omega arith;
}

module _ (s : Set) (q : Passed s) where
  pub count_le : s.count ≤ 7
  count_le = (passed_valid s q).count.1

  pub start_fits : (reading : ℕ) → Fits s (start_run s.count reading)
  unfolding start_run place_empty
  start_fits reading =
      let n = s.count in
      record {
        ticks = omega arith;
        awaited = tt;
        tasks = λ k h.
            let l : k < 7 = omega (arith, count_le) in
            fit_same _ fresh_state _ fresh_counts
            (place_task no_state n (λ _. fresh_state) (λ _. no_state) k l h)
            (place_task no_counts n (λ _. fresh_counts) (λ _. no_counts) k l h)
            (fresh_fit (task_at s k) ((passed_valid s q).tasks k h));
        rest = λ k h l.
            empty_same _ no_state _ no_counts
            (place_rest no_state n (λ _. fresh_state) (λ _. no_state) k l h)
            (place_rest no_counts n (λ _. fresh_counts) (λ _. no_counts) k l h)
            tt;
      }

  pub start_run_lem : (reading : ℕ) → (start_of s reading).run ≡ start_run s.count reading
  start_run_lem reading = ap (λ t. (start_tested s reading t).run) q

-- AN ASK
free_awaited : (s : Set) (r : Run) (a : Option ℕ) → T (not (is_some a)) → T (awaited_fits s r a) → r.substitutions ≤ r.ticks
free_awaited s r None f t = leb→le r.substitutions r.ticks t
free_awaited s r (Some c) f t = absurd f

module _ (s : Set) (q : Passed s) (r : Run) (w : Fits s r) where
  pub given_fits_lem : (p c : ℕ) → T (not (is_some r.awaited)) → T (not (eqb r.ticks tick_limit)) → T (legal_for s r.states c) → Fits s (ask_given r p c).run
  unfolding ask_given
  given_fits_lem p c f m l = record {
    ticks = w.ticks;
    awaited =
        let n : r.ticks < tick_limit = omega (arith, w.ticks, eqb-false r.ticks tick_limit (T_false _ m)) in
        and_by (ltb r.ticks tick_limit) _ (subst T (sym (lt-ltb r.ticks tick_limit n)) tt)
        (and_by (leb (cond (eqb c p) r.substitutions (r.substitutions + 1)) (r.ticks + 1)) _ (subst T (sym (le-leb _ (r.ticks + 1) (few (eqb c p)))) tt) l);
    tasks = w.tasks;
    rest = w.rest;
  }
    where
      few : (b : Bool) → cond b r.substitutions (r.substitutions + 1) ≤ r.ticks + 1
      few true = omega (arith, free_awaited s r r.awaited f w.awaited)
      few false = omega (arith, free_awaited s r r.awaited f w.awaited)

  ask_fits_lem : (table : List ℕ) (p : ℕ) → Fits s (ask_of s table r p).run
  ask_fits_lem table p =
      ask_case s table r p (λ a. Fits s a.run) (λ _ _. w) (λ _ _ _. w) (λ _. w) (λ _. w) (λ _. w) (λ _. w) (λ _. w)
      (λ d. given_fits_lem p _ d.free d.more (choice_legal s r.states _ p (omega (arith, d.within, count_le s q)) (count_le s q) d.serves))

-- A REPORT: the run after an outcome, place by place
module _ (s : Set) (q : Passed s) (r : Run) (w : Fits s r) (o : Outcome) where
  -- the state and the counts that a task's tick gives
  abbrev moved : ℕ → TaskState
  moved k = state_after (state_at r.states k) (tick_at s r.states o k)

  abbrev counted : ℕ → Counts
  counted k = counts_after (state_at r.states k) (counts_at r.counts k) (flags_at o k)

  pub state_then_lem : (k : ℕ) → k < s.count → state_at (run_after s r o).states k ≡ moved k
  unfolding run_after state_then
  state_then_lem k h = place_task no_state s.count moved (state_at r.states) k (omega (arith, count_le s q)) h

  pub after_fits : r.ticks < tick_limit → T (not (impossible s r.states o)) → NoMiss s r.states o → Fits s (run_after s r o)
  unfolding run_after state_then counts_then tick_at
  after_fits l i m =
      let n = s.count in
      record {
        ticks = omega arith;
        awaited = subst T (sym (le-leb r.substitutions (r.ticks + 1) (few_substitutions s r w))) tt;
        tasks = λ k h.
            fit_same _ _ _ _ (state_then_lem k h) (place_task no_counts n counted (counts_at r.counts) k (omega (arith, count_le s q)) h)
            (fit_tick (task_at s k) ((passed_valid s q).tasks k h) (eqb o.choice (suc k)) (state_at r.states k) (flags_at o k) r.ticks (counts_at r.counts k) (w.tasks k h) (possible_none s r.states o i k h) (m k h));
        rest = λ k h l.
            empty_same _ _ _ _ (place_rest no_state n moved (state_at r.states) k l h) (place_rest no_counts n counted (counts_at r.counts) k l h) (w.rest k h l);
      }

-- CALLS, one and any number of them from the start
module _ (s : Set) (q : Passed s) (table : List ℕ) where
  call_fits : (r : Run) → Fits s r → (c : Call) → Fits s (run_by s table r c)
  call_fits r w (ask p) = ask_fits_lem s q r w table p
  call_fits r w (report reading finished arrivals) =
      report_case s r reading finished arrivals (λ a. Fits s a.run) (λ _ _. w) (λ _. w) w w
      (λ c e _. named_case s r _ (λ a. Fits s a.run) (λ _. w) (λ _ _ _. w) (after_fits s q r w _ (open_ticks s r w c e)))

  calls_fit : (r : Run) → Fits s r → (cs : List Call) → Fits s (run_from s table r cs)
  calls_fit r w [] = w
  calls_fit r w (c ∷ cs) = calls_fit (run_by s table r c) (call_fits r w c) cs

  pub reached_fit : (reading : ℕ) (cs : List Call) → Fits s (reached s table reading cs)
  reached_fit reading cs = calls_fit _ (subst (λ (r : Run). Fits s r) (sym (start_run_lem s q reading)) (start_fits s q reading)) cs
