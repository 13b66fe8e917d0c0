-- A guarded run moves by the game: it is a play from the start, of choices that the table's entries allow. Assumes nothing.
use mathlib.Core.Path.{◌≡◌, sym, subst}
use mathlib.Core.Bool.{not}
use mathlib.Core.List.{List, [], ◌∷◌}
use Prim.Native.Nat.{ℕ, ◌+◌, ◌≤◌}
use native.Mathlib.Omega.{arith}
use lib.Dec.{T}
use Rattle.std.specs.Prelude.{Some}
use Rattle.arena.specs.Tests.{◌∈◌}
use Rattle.arena.specs.Arena.{Next, go, out}
use Rattle.tasks.specs.declared.sets.Set.{Set}
use Rattle.tasks.specs.Sets.{states_of, Passed}
use Rattle.game.specs.States.{index_of}
use Rattle.game.specs.Game.{Seen, outcomes_to, arena_of}
use Rattle.game.proofs.StateLaws.{state_index}
use Rattle.shield.specs.Entries.{names, entry_at, Bytes}
use Rattle.guard.specs.declared.runs.Run.{Run}
use Rattle.guard.specs.declared.reports.Outcome.{Outcome}
use Rattle.guard.specs.Runs.{start_run}
use Rattle.guard.specs.Ask.{choice_for, ask_given, ask_of}
use Rattle.guard.specs.Report.{seen_to, impossible, run_after}
use Rattle.guard.specs.Calls.{Call, ask, report, run_by, run_from, reached}
use Rattle.guard.proofs.RunLaws.{Fits, index_fits, open_ticks}
use Rattle.safe_runs.proofs.Cases.{own, ask_case, NoMiss, named_case, report_case, possible_none}
use Rattle.safe_runs.proofs.Fitting.{count_le, start_fits, start_run_lem, given_fits_lem, state_then_lem, after_fits}
use Rattle.safe_runs.proofs.Guarded.{choice_legal, choice_named}
use Rattle.safe_runs.proofs.Named.{named_in, next_go}
use Rattle.safe_runs.proofs.Told.{said}
use Rattle.safe_runs.proofs.Good.{fresh_index, after_free}

module _ (s : Set) (table : List ℕ) where
  -- a play of n ticks leads from the start, index 0, to the index i: each tick an outcome, no miss, of a choice that the entry allows
  pub data Played : ℕ → ℕ → Type 0 where
    begun : Played 0 0
    ticked : {n i : ℕ} (c j : ℕ) (v : Seen) → Played n i → T (names (entry_at table i) c) → out v (go j) ∈ (arena_of s).outs i c → Played (n + 1) j

module _ (s : Set) (q : Passed s) (table : List ℕ) (bytes : Bytes (states_of s) table) where
  -- a run that was played, with nothing awaited that its entry does not allow
  record Along (r : Run) : Type 0 where
    fits : Fits s r
    played : Played s table r.ticks (index_of s r.states)
    named : (c : ℕ) → r.awaited ≡ Some c → T (names (own s table r) c)

  along_ask : (r : Run) → Along r → (p : ℕ) → Along (ask_of s table r p).run
  unfolding ask_given
  along_ask r g p =
      ask_case s table r p (λ a. Along a.run) (λ _ _. g) (λ _ _ _. g) (λ _. g) (λ _. g) (λ _. g) (λ _. g) (λ _. g)
      (λ d. let e = own s table r in let v = count_le s q in let l : p ≤ 7 = omega (arith, d.within) in record {
        fits = given_fits_lem s q r g.fits p _ d.free d.more (choice_legal s r.states e p l v d.serves);
        played = g.played;
        named = λ c z. let k : choice_for s r.states e p ≡ c = cc in subst (λ (c : ℕ). T (names e c)) k (choice_named s r.states e p l v d.serves (bytes _ (index_fits s r g.fits))).0;
      })

  -- a report that is accepted is a tick more
  along_moved : (r : Run) → Along r → (o : Outcome) → r.awaited ≡ Some o.choice → T (not (impossible s r.states o)) → NoMiss s r.states o → Along (run_after s r o)
  unfolding arena_of run_after
  along_moved r g o e t l =
      let n = s.count in
      let i = index_of s r.states in
      let none = possible_none s r.states o t in
      let to = next_go s r.states o (run_after s r o).states n (state_then_lem s q r g.fits o) none l in
      record {
        fits = after_fits s q r g.fits o (open_ticks s r g.fits o.choice e) t l;
        played = ticked o.choice _ (seen_to o n) g.played (g.named o.choice e)
            (subst (λ (m : Next). out (seen_to o n) m ∈ outcomes_to s i o.choice n) to
            (named_in s r.states o i n (state_index s q r.states (λ j h. (g.fits.tasks j h).range)) none));
        named = λ c z. absurd (after_free s r o c z);
      }

  along_call : (r : Run) → Along r → (c : Call) → Along (run_by s table r c)
  along_call r g (ask p) = along_ask r g p
  along_call r g (report reading finished arrivals) =
      report_case s r reading finished arrivals (λ a. Along a.run) (λ _ _. g) (λ _. g) g g
      (λ c e _. named_case s r _ (λ a. Along a.run) (λ _. g) (λ _ _ _. g) (along_moved r g (said c finished arrivals) e))

  along_calls : (r : Run) → Along r → (cs : List Call) → Along (run_from s table r cs)
  along_calls r g [] = g
  along_calls r g (c ∷ cs) = along_calls (run_by s table r c) (along_call r g c) cs

  along_start : (reading : ℕ) → Along (start_run s.count reading)
  unfolding start_run
  along_start reading = record {
    fits = start_fits s q reading;
    played = subst (λ (i : ℕ). Played s table 0 i) (sym (fresh_index s (count_le s q) s.count (omega arith))) begun;
    named = λ c z. let y : ◌≡◌ {A = ℕ} 0 1 = cc in absurd (omega arith);
  }

  -- A GUARDED RUN MOVES BY THAT GAME: after any calls from the start, with any table of bytes, its ticks are those of a play to its own index
  pub run_played : (reading : ℕ) (cs : List Call) → let r = reached s table reading cs in Played s table r.ticks (index_of s r.states)
  run_played reading cs = (along_calls _ (subst (λ (r : Run). Along r) (sym (start_run_lem s q reading)) (along_start reading)) cs).played
