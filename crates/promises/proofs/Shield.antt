-- What the builder and the tester promise. Assumes nothing.
-- `Builds s t w r t' w'` is the builder's contract: called with the set s and buffers that hold t and w, it answers r and leaves t' and
-- w'. `test_of s table` is what the tester answers. `said_built` and `said_verdict` read an answer in the paper's terms: its number of
-- refusal, 0 for none, its place and its values. The game of s is `arena_of s`, a state an index below `states_of s`; a choice is 0 to
-- idle and i to run task i; a scheduler may remember all that it saw (`arena/specs/Plays.antt`).
use mathlib.Core.Path.{◌≡◌, sym, ap, subst, ◌∙◌}
use mathlib.Core.Logic.{◌⊎◌, inl, inr, ◌↔◌}
use mathlib.Core.Bool.{Bool, true, false}
use mathlib.Core.List.{List, [], ◌∷◌}
use Prim.Native.Nat.{ℕ, ◌≤◌, ◌<◌}
use native.Mathlib.Omega.{arith}
use lib.Dec.{T, T_not}
use lib.ListN.{length}
use Rattle.arena.specs.Tests.{◌∈◌}
use Rattle.arena.specs.Arena.{go, Outcome, R, safe, safe_count, shield, passes}
use Rattle.arena.specs.Plays.{Scheduler, Tick, Misses, MissesIn, Never}
use Rattle.arena.proofs.Tests.{T_false}
use Rattle.arena.proofs.Tables.{passes_cong}
use Rattle.arena.proofs.Exact as Exact
use Rattle.std.specs.Prelude.{Result}
use Rattle.tasks.specs.declared.refusals.Refusal.{Refusal}
use Rattle.tasks.specs.declared.sets.Set.{Set}
use Rattle.tasks.specs.Refusals.{no_safe_schedule}
use Rattle.tasks.specs.Sets.{states_of}
use Rattle.tasks.specs.Valid.{Valid}
use Rattle.tasks.proofs.Valid.{passes as valid-passes}
use Rattle.game.specs.Game.{Seen, outcomes_to, legal_at, arena_of}
use Rattle.game.proofs.Sound.{sound}
use Rattle.shield.specs.declared.builder.Built.{Built}
use Rattle.shield.specs.Entries.{names, entry_of, entry_at, Bytes, live}
use Rattle.shield.specs.Build.{build_if, Builds, said_built}
use Rattle.shield.specs.Test.{test_of, said_verdict}
use Rattle.shield.proofs.BuildLaws.{with_room}
use Rattle.shield.proofs.Done.{Made, made, made_falls}
use Rattle.shield.proofs.Tested.{passes_tried, said_passes}
use Rattle.promises.proofs.Tables.{names_in, tested_iff}
use Rattle.promises.proofs.Shielded.{Shielded, shielded, shield_bytes, shield_names, shield_live}

-- the builder refuses nothing
abbrev pub Answered : Result Built Refusal → Type 0
Answered r = (said_built r).number ≡ 0

-- it finds no safe schedule
abbrev pub NoSchedule : Result Built Refusal → Type 0
NoSchedule r = (said_built r).number ≡ no_safe_schedule

-- the tester refuses nothing
abbrev pub TestPasses : Set → List ℕ → Type 0
TestPasses s table = (said_verdict (test_of s table)).number ≡ 0

-- A BUILD THAT IS ANSWERED
module _ (s : Set) (t w t' w' : List ℕ) (r : Result Built Refusal) (B : Builds s t w r t' w') (a : Answered r) where
  S : Shielded s r t'
  S = shielded s t w t' w' r B a

  -- EXACT: bit k of a built entry is set if and only if the choice k is legal in the state and, after each of its outcomes, none a
  -- miss, some scheduler never misses
  pub exact : (i k : ℕ) → i < states_of s → k < 8
      → T (names (entry_at t' i) k)
      ↔ (T (legal_at s i k)
      × ((o : Outcome Seen) → o ∈ outcomes_to s i k s.count → (j : ℕ) × (o.next ≡ go j) × (σ : Scheduler (arena_of s)) × Never σ j))
  unfolding arena_of
  exact i k h l =
      let e = Exact.exact (arena_of s) (sound s S.set) i k h in
      let q = shield_names s r t' S i k h l in
      (λ n. e.0 (subst T q n), λ w. subst T (sym q) (e.1 w))

  -- ZERO: an entry is not zero if and only if from the state some scheduler never misses
  pub live_exactly : (i : ℕ) → i < states_of s → T (live t' i) ↔ ((σ : Scheduler (arena_of s)) × Never σ i)
  unfolding arena_of
  live_exactly i h =
      let e = Exact.safe_iff (arena_of s) (sound s S.set) i h in
      let q = shield_live s r t' S i h in
      (λ t. e.0 (subst T q t), λ σ. subst T (sym q) (e.1 σ))

  -- its entries are bytes
  pub built_bytes : Bytes (states_of s) t'
  built_bytes = shield_bytes s r t' S

  -- PASSES: the built table passes the tester
  pub built_passes : TestPasses s t'
  unfolding arena_of
  built_passes =
      let A = arena_of s in
      let q = passes_cong A (sound s S.set) (names_in t') (shield A) (shield_names s r t' S) in
      (tested_iff s S.set t' built_bytes S.room).0 (subst T (sym q) ((Exact.shield_iff A (sound s S.set)).1 S.start))

  -- LARGEST: each entry of a table that passes, from any maker, is within the built one's
  pub largest : (table : List ℕ) → Bytes (states_of s) table → TestPasses s table
      → (i k : ℕ) → i < states_of s → k < 8 → T (names (entry_at table i) k) → T (names (entry_at t' i) k)
  unfolding arena_of
  largest table bytes e i k h l n =
      let u = passes_tried s table (said_passes s table e) in
      let q = (tested_iff s u.set table bytes u.long).1 e in
      subst T (sym (shield_names s r t' S i k h l)) ((Exact.largest (arena_of s) (sound s u.set) (names_in table) q).1 i k h l n)

  -- NO FREEDOM: it answers the number of safe states, R and the start's entry
  pub answered_exactly : (said_built r).values ≡ safe_count (arena_of s) ∷ R (arena_of s) ∷ entry_of (shield (arena_of s) 0) ∷ []
  answered_exactly = ap (λ r. (said_built r).values) S.answer

-- A BUILD THAT IS REFUSED WITH 8
module _ (s : Set) (t w t' w' : List ℕ) (r : Result Built Refusal) (B : Builds s t w r t' w') (n : NoSchedule r) where
  N : Made s r
  N = made s (length t) (length w) r (λ h. omega arith) B.answer

  -- FEWEST: the refusal's place is the fewest ticks within which a miss can be forced
  pub fewest : ((σ : Scheduler (arena_of s)) → MissesIn (said_built r).place σ [] 0)
      × ((j : ℕ) → j < (said_built r).place → (σ : Scheduler (arena_of s)) × (MissesIn j σ [] 0 → ⊥))
  unfolding arena_of
  fewest =
      let u = made_falls s r N (omega arith) in
      let f = Exact.fewest (arena_of s) (sound s N.set) u.0 in
      (λ σ. subst (λ (k : ℕ). MissesIn k σ [] 0) (sym u.1) (f.0 σ), λ j h. f.1 j (subst (λ (k : ℕ). j < k) u.1 h))

  -- NONE: no table passes
  pub none_passes : (table : List ℕ) → Bytes (states_of s) table → TestPasses s table → ⊥
  unfolding arena_of
  none_passes table bytes e =
      T_not (passes (arena_of s) (names_in table)) (Exact.none_passes (arena_of s) (sound s N.set) (made_falls s r N (omega arith)).0 (names_in table))
      ((tested_iff s N.set table bytes (passes_tried s table (said_passes s table e)).long).1 e)

-- A VALID SET, WITH ROOM ENOUGH IN BOTH BUFFERS
module _ (s : Set) (v : Valid s) (t w t' w' : List ℕ) (ht : states_of s ≤ length t) (hw : states_of s ≤ length w) (r : Result Built Refusal) (B : Builds s t w r t' w') where
  judged : r ≡ build_if s (safe (arena_of s) 0)
  judged = B.answer ∙ with_room s (valid-passes s v) t w ht hw

  -- REFUSED EXACTLY: it is refused with 8 if and only if every scheduler can be forced into a miss
  pub refused_exactly : NoSchedule r ↔ ((σ : Scheduler (arena_of s)) → (play : List (Tick Seen)) × Misses σ [] 0 play)
  unfolding arena_of
  refused_exactly =
      let A = sound s (valid-passes s v) in
      let u = Exact.unsafe_iff (arena_of s) A 0 A.start in (
        λ n. u.0 (made_falls s r (record { set = valid-passes s v; judged = judged }) (omega arith)).0,
        λ f. ap (λ r. (said_built r).number) (judged ∙ ap (build_if s) (T_false (safe (arena_of s) 0) (u.1 f))),
      )

  -- and is answered otherwise
  pub refused_or_answered : Answered r ⊎ NoSchedule r
  refused_or_answered = by (safe (arena_of s) 0) judged
    where
      by : (v : Bool) → r ≡ build_if s v → Answered r ⊎ NoSchedule r
      by true q = inl (ap (λ r. (said_built r).number) q)
      by false q = inr (ap (λ r. (said_built r).number) q)
