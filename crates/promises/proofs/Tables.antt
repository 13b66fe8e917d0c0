-- The tester's answer as what the theory of games says of a table. Assumes nothing.
use mathlib.Core.Path.{◌≡◌, sym, ap, ap₂, subst}
use mathlib.Core.Logic.{◌↔◌}
use mathlib.Core.Bool.{Bool, true, false, not, ◌&&◌, ◌||◌}
use mathlib.Core.List.{List}
use Prim.Native.Nat.{ℕ, ◌≤◌, ◌<◌}
use lib.Dec.{T, eqb, eqb→eq}
use lib.ListN.{length}
use Rattle.arena.specs.Tests.{all_below, imp}
use Rattle.arena.specs.Arena.{fine, used, guards, passes}
use Rattle.arena.proofs.Tests.{nor, not_not, all_below_cong}
use Rattle.arena.proofs.Rounds.{fine_cong}
use Rattle.arena.proofs.Tables.{passes_start, passes_at, passes_by}
use Rattle.tasks.specs.declared.sets.Set.{Set}
use Rattle.tasks.specs.Sets.{states_of, Passed}
use Rattle.game.specs.Game.{arena_of}
use Rattle.game.proofs.Sound.{sound}
use Rattle.shield.specs.Entries.{names, entry_at, Bytes, live}
use Rattle.shield.specs.Test.{faulty, test_of, said_verdict}
use Rattle.shield.proofs.EntryLaws.{names_none}
use Rattle.shield.proofs.Tested.{passes_tried, tried_passes, said_passes}

-- what a table of bytes names
abbrev pub names_in : List ℕ → ℕ → ℕ → Bool
names_in table i c = names (entry_at table i) c

module _ (s : Set) (p : Passed s) (table : List ℕ) (bytes : Bytes (states_of s) table) where
  live_used : (i : ℕ) → i < states_of s → live table i ≡ used (arena_of s) (names_in table) i
  unfolding arena_of
  live_used i h = names_none (entry_at table i) (bytes i h)

  -- an entry is not faulty exactly if the game's test finds nothing at its state
  sound_entry : (i : ℕ) → i < states_of s → all_below 8 (λ c. imp (names (entry_at table i) c) (fine (arena_of s) (live table) i c)) ≡ guards (arena_of s) (names_in table) i
  unfolding arena_of
  sound_entry i h = all_below_cong 8 _ _ (λ c l. ap (imp (names (entry_at table i) c)) (fine_cong (arena_of s) (sound s p) _ _ live_used i c h))

  faulty_at : (i : ℕ) → i < states_of s → faulty s table i ≡ ((eqb i 0 && not (used (arena_of s) (names_in table) i)) || not (guards (arena_of s) (names_in table) i))
  unfolding faulty
  faulty_at i h = ap₂ (λ x y. (eqb i 0 && not x) || not y) (live_used i h) (sound_entry i h)

module _ (s : Set) (p : Passed s) (table : List ℕ) (bytes : Bytes (states_of s) table) where
  none_faulty : T (passes (arena_of s) (names_in table)) → (i : ℕ) → i < states_of s → T (not (faulty s table i))
  unfolding arena_of
  none_faulty t i h =
      subst (λ b. T (not b)) (sym (faulty_at s p table bytes i h))
      (both (eqb i 0) (used (arena_of s) (names_in table) i) (guards (arena_of s) (names_in table) i)
      (λ z. subst (λ (j : ℕ). T (used (arena_of s) (names_in table) j)) (sym (eqb→eq i 0 z)) (passes_start (arena_of s) (names_in table) t))
      (passes_at (arena_of s) (names_in table) t i h))
    where
      both : (a u g : Bool) → (T a → T u) → T g → T (not ((a && not u) || not g))
      both true true true h t = tt
      both true true false h t = absurd t
      both true false g h t = absurd (h tt)
      both false u true h t = tt
      both false u false h t = absurd t

  no_fault_passes : ((i : ℕ) → i < states_of s → T (not (faulty s table i))) → T (passes (arena_of s) (names_in table))
  unfolding arena_of
  no_fault_passes right = passes_by (arena_of s) (names_in table)
      (not_not (used (arena_of s) (names_in table) 0) (parts 0 (sound s p).start).0)
      (λ i h. not_not (guards (arena_of s) (names_in table) i) (parts i h).1)
    where
      parts : (i : ℕ) → i < states_of s → T (not (eqb i 0 && not (used (arena_of s) (names_in table) i))) × T (not (not (guards (arena_of s) (names_in table) i)))
      parts i h = nor (eqb i 0 && not (used (arena_of s) (names_in table) i)) _ (subst (λ b. T (not b)) (faulty_at s p table bytes i h) (right i h))

  -- the tester passes a table that is long enough exactly if the table passes the game's test
  pub tested_iff : states_of s ≤ length table → T (passes (arena_of s) (names_in table)) ↔ ((said_verdict (test_of s table)).number ≡ 0)
  tested_iff room = (
    λ t. ap (λ v. (said_verdict v).number) (tried_passes s table (record { set = p; long = room; right = none_faulty t })),
    λ e. no_fault_passes (passes_tried s table (said_passes s table e)).right,
  )
