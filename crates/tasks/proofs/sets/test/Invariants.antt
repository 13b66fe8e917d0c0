-- The records before i are without fault.
use Rattle.std.specs.Prelude.{◌≡◌, ◌-◌}
use Rattle.tasks.specs.Sets.{lowest_fault, test_states, test_set}
use Rattle.tasks.proofs.sets.test.Given as goal

abbrev pub invariant-loop-i : goal.invariant-loop-i
invariant-loop-i l = test_set l.s ≡ lowest_fault l.s (7 - l.i) l.i (test_states l.s)
