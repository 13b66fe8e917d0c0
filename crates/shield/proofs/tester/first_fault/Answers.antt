-- No entry before i is faulty.
use Rattle.std.proofs.Common.{sym, ◌∙◌}
use Rattle.shield.specs.Test.{faulty}
use Rattle.shield.proofs.TestLaws.{first_next}
use Rattle.shield.proofs.tester.first_fault.Goals as goal

pub loop-i-preserved : goal.loop-i-preserved
loop-i-preserved c = let a = c.args in
    c.loop-i.invariant ∙ first_next (faulty a.v.now.set a.table.now) a.v.now.states c.loop-i.i c.loop-i-test.true (sym c.is_faulty.ensures ∙ c.if-is_faulty.false)
