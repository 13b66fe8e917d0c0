-- The local numbers of the first k tasks, and the index of those left.
use Rattle.std.proofs.Common.{◌≡◌, ℕ, ◌/◌, ◌≤◌, ◌<◌, length, get_or}
use Rattle.tasks.specs.Sets.{states_to}
use Rattle.game.specs.States.{local_at}
use Rattle.game.proofs.states.locals_at.Given as goal

abbrev pub invariant-loop-k : goal.invariant-loop-k
invariant-loop-k l = record {
  long : length l.d ≡ 7;
  rest : l.rest ≡ l.i / states_to l.s l.k;
  before : (j : ℕ) → j < l.k → get_or l.d j 0 ≡ local_at l.s l.i j;
  beyond : (j : ℕ) → l.k ≤ j → j < 7 → get_or l.d j 0 ≡ 0;
}
