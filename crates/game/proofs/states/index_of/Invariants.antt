-- The index of the first k tasks' states.
use Rattle.std.proofs.Common.{◌≡◌, ◌*◌, ◌^◌, ◌≤◌}
use Rattle.tasks.specs.Sets.{states_to}
use Rattle.game.specs.States.{index_to}
use Rattle.game.proofs.states.index_of.Given as goal

abbrev pub invariant-loop-k : goal.invariant-loop-k
invariant-loop-k l = record {
  weight : l.weight ≡ states_to l.s l.k;
  light : l.weight ≤ 272 ^ l.k;
  at : l.at ≡ index_to l.s l.xs l.k;
  low : l.at ≤ 17 * 272 ^ l.k;
}
