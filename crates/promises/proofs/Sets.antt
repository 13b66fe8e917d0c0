-- What the test of a set promises, in the paper's terms: `said_tested (test_set s)` is what it answers. Assumes nothing.
use mathlib.Core.Path.{◌≡◌, refl, ap}
use mathlib.Core.Logic.{◌⊎◌, inl, inr, ◌↔◌}
use mathlib.Core.List.{[], ◌∷◌}
use Prim.Native.Nat.{◌≤◌}
use native.Mathlib.Omega.{arith}
use Rattle.tasks.specs.declared.sets.Set.{Set}
use Rattle.std.specs.Prelude.{Result, Ok, Err, ℕ}
use Rattle.tasks.specs.declared.refusals.Refusal.{Refusal}
use Rattle.tasks.specs.Sets.{states_of, test_set, said_tested}
use Rattle.tasks.specs.Valid.{Valid}
use Rattle.tasks.proofs.Valid.{valid, passes, refused_number}

module _ (s : Set) where
  -- TAKEN: nothing is refused if and only if the set is valid
  pub taken_exactly : ((said_tested (test_set s)).number ≡ 0) ↔ Valid s
  taken_exactly = (by (test_set s) refl, λ v. ap (λ t. (said_tested t).number) (passes s v))
    where
      by : (t : Result ℕ Refusal) → test_set s ≡ t → (said_tested t).number ≡ 0 → Valid s
      by (Ok n) q e = (valid s n q).0
      by (Err f) q e = absurd (omega (arith, (refused_number s f q).0))

  -- and then it answers the number of states
  pub taken_states : Valid s → (said_tested (test_set s)).values ≡ states_of s ∷ []
  taken_states v = ap (λ t. (said_tested t).values) (passes s v)

  -- REFUSED: otherwise with a number of 3 to 6
  pub taken_or_refused : ((said_tested (test_set s)).number ≡ 0) ⊎ ((3 ≤ (said_tested (test_set s)).number) × ((said_tested (test_set s)).number ≤ 6))
  taken_or_refused = by (test_set s) refl
    where
      by : (t : Result ℕ Refusal) → test_set s ≡ t → ((said_tested t).number ≡ 0) ⊎ ((3 ≤ (said_tested t).number) × ((said_tested t).number ≤ 6))
      by (Ok n) q = inl refl
      by (Err f) q = inr (refused_number s f q)
