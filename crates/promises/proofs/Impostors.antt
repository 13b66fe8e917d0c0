-- Removal while a round is going on leaves the right states, and other numbers: for `thirds` r is 2 if states are looked at from the lowest
-- index on, and 1 from the highest; for `quarters` R is 2 either way (worked out by oracle/selftest_sets.py, not proved here). What is proved: the
-- builder's contract says 3 and 3. Assumes nothing.
use mathlib.Core.Path.{◌≡◌, ap, ap₂, ◌∙◌}
use mathlib.Core.Bool.{cond}
use mathlib.Core.List.{List, [], ◌∷◌}
use Prim.Native.Nat.{ℕ, ◌≤◌}
use lib.ListN.{length}
use borrow.Author.Tests.{le-ltb}
use Rattle.std.specs.Prelude.{Result, Ok, Err}
use Rattle.tasks.specs.declared.refusals.Refusal.{Refusal}
use Rattle.tasks.specs.declared.refusals.Reason.TheVariants.{NoSafeSchedule}
use Rattle.tasks.specs.declared.sets.Set.{Set}
use Rattle.tasks.specs.Refusals.{answered, no_safe_schedule}
use Rattle.tasks.specs.Lists.{values, shortest_of, longest_of, length_of, listed}
use Rattle.tasks.specs.Examples.{hard, set_of}
use Rattle.tasks.specs.Sets.{name_byte, characters, zeros, good_name, blank, unfit, fault_of, fault_at, locals_of, states_to, lowest_fault, test_states, test_set}
use Rattle.game.specs.States.{local_of, state_of, in_range, local_at}
use Rattle.game.specs.Ticks.{runnable, can, tick_of}
use Rattle.game.specs.Game.{outcomes_to, arena_of}
use Rattle.shield.specs.declared.builder.Built.{Built}
use Rattle.shield.specs.Entries.{names, marks}
use Rattle.shield.specs.Build.{too_short, build_of, Builds, said_built}

-- hard 3 1,2 3 and hard 1 1 1,2
abbrev pub thirds : Set
thirds = set_of (65 ∷ []) (hard 3 3 4 ∷ hard 1 1 3 ∷ [])

-- hard 4 2 4 and hard 2 1 2
abbrev pub quarters : Set
quarters = set_of (65 ∷ []) (hard 4 2 8 ∷ hard 2 1 2 ∷ [])

-- no safe schedule, and the start falls in round 3
abbrev in3 : Refusal
in3 = record { reason = NoSafeSchedule; place = 3 }

module _ (n m : ℕ) where
  thirds_built : 36 ≤ n → 36 ≤ m → build_of thirds n m ≡ Err in3
  unfolding values shortest_of longest_of length_of listed name_byte characters zeros good_name blank unfit fault_of fault_at locals_of states_to lowest_fault test_states test_set local_of state_of in_range local_at runnable can tick_of outcomes_to arena_of names marks
  thirds_built h k = ap₂ (λ a b. cond a (too_short 36) (cond b (too_short 36) (Err in3))) (le-ltb n 36 h) (le-ltb m 36 k)

  quarters_built : 48 ≤ n → 48 ≤ m → build_of quarters n m ≡ Ok (record { safe = 40; rounds = 3; start = 6 })
  unfolding values shortest_of longest_of length_of listed name_byte characters zeros good_name blank unfit fault_of fault_at locals_of states_to lowest_fault test_states test_set local_of state_of in_range local_at runnable can tick_of outcomes_to arena_of names marks
  quarters_built h k = ap₂ (λ a b. cond a (too_short 48) (cond b (too_short 48) (Ok (record { safe = 40; rounds = 3; start = 6 })))) (le-ltb n 48 h) (le-ltb m 48 k)

module _ (r : Result Built Refusal) (t w t' w' : List ℕ) where
  -- removed at once, the start of `thirds` falls in round 3: refusal 8 with r 3
  pub r_at_once : 36 ≤ length t → 36 ≤ length w → Builds thirds t w r t' w' → said_built r ≡ record { number = no_safe_schedule; place = 3; values = 0 ∷ 0 ∷ 0 ∷ [] }
  r_at_once h k B = ap said_built (B.answer ∙ thirds_built (length t) (length w) h k)

  -- and `quarters` has 40 safe states, R 3 and the start's entry 6
  pub R_at_once : 48 ≤ length t → 48 ≤ length w → Builds quarters t w r t' w' → said_built r ≡ answered (40 ∷ 3 ∷ 6 ∷ [])
  R_at_once h k B = ap said_built (B.answer ∙ quarters_built (length t) (length w) h k)
