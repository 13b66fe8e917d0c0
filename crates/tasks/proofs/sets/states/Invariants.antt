-- The states of the tasks before t.
use Rattle.std.specs.Prelude.{◌≡◌, ◌^◌, ◌≤◌}
use Rattle.tasks.specs.Sets.{states_to}
use Rattle.tasks.proofs.sets.states.Given as goal

abbrev pub invariant-loop-t : goal.invariant-loop-t
invariant-loop-t l = (l.n ≡ states_to l.fn.s l.t-index) × (l.n ≤ 272 ^ l.t-index)
