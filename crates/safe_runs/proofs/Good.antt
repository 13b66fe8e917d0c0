-- With a table that passes the test, a run stays on states where the table is used, and no call on it is refused with 16, 19 or 21. Assumes nothing.
use mathlib.Core.Path.{◌≡◌, refl, sym, ap₂, subst, ◌∙◌}
use mathlib.Core.Bool.{Bool, not, ◌&&◌}
use mathlib.Core.List.{List, [], ◌∷◌}
use Prim.Native.Nat.{ℕ, zero, suc, ◌+◌, ◌*◌, ◌≤◌, ◌<◌}
use native.Mathlib.Omega.{arith}
use lib.Dec.{T, eqb, ltb, ltb→lt, T_not}
use borrow.Author.Tests.{eq-eqb}
use Rattle.std.specs.Prelude.{Some}
use Rattle.arena.specs.Tests.{◌∈◌, all, all_below, imp}
use Rattle.arena.specs.Arena.{Next, miss, lands, fine}
use Rattle.arena.specs.Arena as arena
use Rattle.arena.proofs.Tests.{nor, and_left, and_right, and_by, not_not, imp_at, all_below_at, all_at}
use Rattle.tasks.specs.declared.sets.Set.{Set}
use Rattle.tasks.specs.Refusals.{Said, bad_entry, hard_miss, state_does_not_fit}
use Rattle.tasks.specs.Sets.{task_at, states_to, states_of}
use Rattle.tasks.proofs.Valid.{passed_valid}
use Rattle.game.specs.declared.states.TaskState.{TaskState}
use Rattle.game.specs.States.{local_of, no_state, index_to, index_of}
use Rattle.game.specs.Ticks.{runnable}
use Rattle.game.specs.Game.{Seen, outcomes_to, legal_at, arena_of}
use Rattle.game.proofs.StateLaws.{states_pos, state_index}
use Rattle.shield.specs.Entries.{names, entry_at, Bytes, live}
use Rattle.shield.specs.Test.{faulty}
use Rattle.shield.proofs.Tested.{Tried}
use Rattle.guard.specs.declared.runs.Run.{Run}
use Rattle.guard.specs.declared.reports.Outcome.{Outcome}
use Rattle.guard.specs.Runs.{seven, fresh_state, start_state, start_run, legal_for, fits, said_taken}
use Rattle.guard.specs.Ask.{serves, choice_for, ask_given, ask_of, said_chosen}
use Rattle.guard.specs.Report.{impossible, run_after, report_of}
use Rattle.guard.specs.Calls.{Call, ask, report, said_by, run_by, run_from, reached, Clean}
use Rattle.guard.proofs.RunLaws.{Fits, fits_by, index_fits, open_ticks}
use Rattle.safe_runs.proofs.Cases.{own, not_refused, Ready, ask_case, Misses, NoMiss, named_case, report_case, possible_none}
use Rattle.safe_runs.proofs.Fitting.{place_task, count_le, start_fits, start_run_lem, given_fits_lem, state_then_lem, after_fits}
use Rattle.safe_runs.proofs.Guarded.{serves_by, choice_named, choice_legal}
use Rattle.safe_runs.proofs.Named.{next_to, named_in, next_go, next_miss}
use Rattle.safe_runs.proofs.Told.{said}

-- what the test found of a table
module _ (s : Set) (table : List ℕ) (w : Tried s table) where
  abbrev named_right : ℕ → ℕ → Bool
  named_right i c = imp (names (entry_at table i) c) (fine (arena_of s) (live table) i c)

  -- the entry of the start is not zero, and what an entry names is fine
  start_live : 0 < states_of s → T (live table 0)
  unfolding faulty
  start_live h = not_not (live table 0) (nor (eqb 0 0 && not (live table 0)) (not (all_below 8 (named_right 0))) (w.right 0 h)).0

  named_fine : (i c : ℕ) → i < states_of s → c < 8 → T (names (entry_at table i) c) → T (fine (arena_of s) (live table) i c)
  unfolding faulty
  named_fine i c h l =
      imp_at (names (entry_at table i) c) (fine (arena_of s) (live table) i c)
      (all_below_at 8 (named_right i) (not_not (all_below 8 (named_right i)) (nor (eqb i 0 && not (live table i)) (not (all_below 8 (named_right i))) (w.right i h)).1) c l)

-- a run on states where the table is used, with nothing awaited that its entry does not name
pub record Good (s : Set) (table : List ℕ) (r : Run) : Type 0 where
  pub fits : Fits s r
  pub live : T (live table (index_of s r.states))
  pub named : (c : ℕ) → r.awaited ≡ Some c → T (names (own s table r) c) × (c < 8)

-- an answer with another number
clean : {a : Said} → T (not (eqb a.number bad_entry)) → T (not (eqb a.number hard_miss)) → T (not (eqb a.number state_does_not_fit)) → Clean a
clean {a} e m f = record { entry = other bad_entry e; miss = other hard_miss m; fit = other state_does_not_fit f }
  where
    other : (n : ℕ) → T (not (eqb a.number n)) → a.number ≡ n → ⊥
    other n t e = T_not (eqb a.number n) t (subst T (sym (eq-eqb a.number n e)) tt)

-- nothing is awaited after a report
pub after_free : (s : Set) (r : Run) (o : Outcome) (c : ℕ) → (run_after s r o).awaited ≡ Some c → ⊥
unfolding run_after
after_free s r o c z = let y : ◌≡◌ {A = ℕ} 0 1 = cc in omega arith

-- the start is index 0
pub fresh_index : (s : Set) → s.count ≤ 7 → (k : ℕ) → k ≤ s.count → index_to s (seven (start_state s.count)) k ≡ 0
unfolding index_to local_of
fresh_index s v zero h = refl
fresh_index s v (suc k) h =
    let x = place_task no_state s.count (λ _. fresh_state) (λ _. no_state) k (omega arith) h in
    ap₂ (λ (x : TaskState) (n : ℕ). local_of (task_at s k) x * states_to s k + n) x (fresh_index s v k (omega arith)) ∙ omega arith

module _ (s : Set) (table : List ℕ) (w : Tried s table) (bytes : Bytes (states_of s) table) where
  -- what is legal at the index of a run that fits is legal in its states
  legal_for_lem : (r : Run) → Fits s r → (c : ℕ) → T (legal_at s (index_of s r.states) c) → T (legal_for s r.states c)
  unfolding legal_for
  legal_for_lem r f zero t = tt
  legal_for_lem r f (suc k) t =
      let l = and_left (ltb k s.count) _ t in
      and_by (ltb k s.count) _ l
      (subst (λ (x : TaskState). T (runnable (task_at s k) x)) (state_index s w.set r.states (λ j h. (f.tasks j h).range) k (ltb→lt k s.count l)) (and_right (ltb k s.count) _ t))

  -- so the entry serves the run
  pub good_serves : (r : Run) → Good s table r → T (serves s r.states (own s table r))
  unfolding arena_of
  good_serves r g =
      let i = index_of s r.states in
      serves_by s r.states (entry_at table i) (λ z. T_not (eqb (entry_at table i) 0) g.live (subst (λ (e : ℕ). T (eqb e 0)) (sym z) tt))
      (λ c l n. legal_for_lem r g.fits c (and_left (legal_at s i c) _ (named_fine s table w i c (index_fits s r g.fits) l n)))

  -- AN ASK
  good_ask : (r : Run) → Good s table r → (p : ℕ) → Good s table (ask_of s table r p).run × Clean (said_chosen (ask_of s table r p).answer)
  unfolding ask_given
  good_ask r g p =
      ask_case s table r p (λ a. Good s table a.run × Clean (said_chosen a.answer))
      (λ f z. absurd (not_refused s w.set f z))
      (λ _ _ _. (g, clean tt tt tt))
      (λ t. absurd (T_not (fits s r) t (fits_by s r g.fits)))
      (λ _. (g, clean tt tt tt))
      (λ _. (g, clean tt tt tt))
      (λ _. (g, clean tt tt tt))
      (λ t. absurd (T_not (serves s r.states (own s table r)) t (good_serves r g)))
      given
    where
      given : Ready s table r p → Good s table (ask_given r p (choice_for s r.states (own s table r) p)).run × Clean (said_chosen (ask_given r p (choice_for s r.states (own s table r) p)).answer)
      given d =
          let e = own s table r in
          let v = count_le s w.set in
          let l : p ≤ 7 = omega (arith, d.within) in (
            record {
              fits = given_fits_lem s w.set r g.fits p _ d.free d.more (choice_legal s r.states e p l v d.serves);
              live = g.live;
              named = λ c z. let q : choice_for s r.states e p ≡ c = cc in subst (λ (c : ℕ). T (names e c) × (c < 8)) q (choice_named s r.states e p l v d.serves (bytes (index_of s r.states) (index_fits s r g.fits)));
            },
            clean tt tt tt,
          )

  -- A REPORT: every outcome of the awaited choice is no miss and on a state where the table is used
  outcomes_land : (r : Run) → Good s table r → (c : ℕ) → r.awaited ≡ Some c
      → T (all (λ o. lands (live table) o.next) (outcomes_to s (index_of s r.states) c s.count))
  unfolding arena_of
  outcomes_land r g c e =
      let n = g.named c e in
      and_right (legal_at s (index_of s r.states) c) _ (named_fine s table w (index_of s r.states) c (index_fits s r g.fits) n.1 n.0)

  -- so none of them is a miss
  pub good_outcomes : (r : Run) → Good s table r → (c : ℕ) → r.awaited ≡ Some c
      → (o : arena.Outcome Seen) → o ∈ (arena_of s).outs (index_of s r.states) c → o.next ≡ miss → ⊥
  unfolding arena_of
  good_outcomes r g c e o m z =
      subst (λ (n : Next). T (lands (live table) n)) z
      (all_at (λ o. lands (live table) o.next) (outcomes_to s (index_of s r.states) c s.count) (outcomes_land r g c e) m)

  named_lands : (r : Run) → Good s table r → (o : Outcome) → r.awaited ≡ Some o.choice → T (not (impossible s r.states o))
      → T (lands (live table) (next_to s r.states o s.count))
  named_lands r g o e t =
      all_at (λ o. lands (live table) o.next) (outcomes_to s (index_of s r.states) o.choice s.count) (outcomes_land r g o.choice e)
      (named_in s r.states o (index_of s r.states) s.count (state_index s w.set r.states (λ j h. (g.fits.tasks j h).range)) (possible_none s r.states o t))

  good_report : (r : Run) → Good s table r → (reading : ℕ) (finished : Bool) (arrivals : ℕ)
      → Good s table (report_of s r reading finished arrivals).run × Clean (said_taken (report_of s r reading finished arrivals).answer)
  good_report r g reading finished arrivals =
      report_case s r reading finished arrivals (λ a. Good s table a.run × Clean (said_taken a.answer))
      (λ f z. absurd (not_refused s w.set f z))
      (λ t. absurd (T_not (fits s r) t (fits_by s r g.fits)))
      (g, clean tt tt tt)
      (g, clean tt tt tt)
      (λ c e _. named_case s r _ (λ a. Good s table a.run × Clean (said_taken a.answer))
      (λ _. (g, clean tt tt tt))
      (λ t k m. absurd (missed (said c finished arrivals) e t k m))
      (λ t l. (moved (said c finished arrivals) e t l, clean tt tt tt)))
    where
      missed : (o : Outcome) → r.awaited ≡ Some o.choice → T (not (impossible s r.states o)) → (k : ℕ) → Misses s r.states o k → ⊥
      missed o e t k m =
          subst (λ (n : Next). T (lands (live table) n)) (next_miss s r.states o k s.count m.within m.missed) (named_lands r g o e t)

      moved : (o : Outcome) → r.awaited ≡ Some o.choice → T (not (impossible s r.states o)) → NoMiss s r.states o → Good s table (run_after s r o)
      moved o e t l = record {
        fits = after_fits s w.set r g.fits o (open_ticks s r g.fits o.choice e) t l;
        live = subst (λ (n : Next). T (lands (live table) n)) (next_go s r.states o (run_after s r o).states s.count (state_then_lem s w.set r g.fits o) (possible_none s r.states o t) l) (named_lands r g o e t);
        named = λ c z. absurd (after_free s r o c z);
      }

  -- ANY CALL, and any number of them from the start
  pub good_call : (r : Run) → Good s table r → (c : Call) → Good s table (run_by s table r c) × Clean (said_by s table r c)
  good_call r g (ask p) = good_ask r g p
  good_call r g (report reading finished arrivals) = good_report r g reading finished arrivals

  good_runs : (r : Run) → Good s table r → (cs : List Call) → Good s table (run_from s table r cs)
  good_runs r g [] = g
  good_runs r g (c ∷ cs) = good_runs (run_by s table r c) (good_call r g c).0 cs

  good_start : (reading : ℕ) → Good s table (start_run s.count reading)
  unfolding start_run
  good_start reading =
      let v = passed_valid s w.set in
      record {
        fits = start_fits s w.set reading;
        live = subst (λ (i : ℕ). T (live table i)) (sym (fresh_index s v.count.1 s.count (omega arith))) (start_live s table w (states_pos s v s.count (omega arith)));
        named = λ c z. let y : ◌≡◌ {A = ℕ} 0 1 = cc in absurd (omega arith);
      }

  pub good_reached : (reading : ℕ) (cs : List Call) → Good s table (reached s table reading cs)
  good_reached reading cs = good_runs _ (subst (λ (r : Run). Good s table r) (sym (start_run_lem s w.set reading)) (good_start reading)) cs
