-- Laws of an ask: the entry. Assumes nothing.
use Rattle.std.proofs.Common.{◌≡◌, ℕ, false, not, ◌&&◌, List, ap, eq-eqb}
use Rattle.arena.specs.Tests.{all_below}
use Rattle.tasks.specs.declared.sets.Set.{Set}
use Rattle.game.specs.declared.states.TaskState.{TaskState}
use Rattle.guard.specs.Ask.{serves_for, serves}

module _ (s : Set) (xs : List TaskState) (e : ℕ) where
  -- an entry of 0 serves no state
  pub serves_none : e ≡ 0 → serves s xs e ≡ false
  unfolding serves
  serves_none q = ap (λ b. not b && all_below 8 (serves_for s xs e)) (eq-eqb e 0 q)
