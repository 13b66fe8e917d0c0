-- No entry before i is faulty.
use Rattle.std.proofs.Common.{◌≡◌, ◌-◌}
use Rattle.arena.specs.Tests.{first}
use Rattle.shield.specs.Test.{faulty}
use Rattle.shield.proofs.tester.first_fault.Given as goal

abbrev pub invariant-loop-i : goal.invariant-loop-i
invariant-loop-i l = first (faulty l.v.set l.table) l.v.states 0 ≡ first (faulty l.v.set l.table) (l.v.states - l.i) l.i
