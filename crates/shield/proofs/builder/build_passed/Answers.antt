-- Room in both buffers, and then what the rounds come to.
use Rattle.std.proofs.Common.{arith}
use Rattle.shield.proofs.BuildLaws.{built_safe}
use Rattle.shield.proofs.builder.build_passed.Goals as goal

pub returns-in-Ok : goal.returns-in-Ok
returns-in-Ok c = let r = c.run_rounds-settled in
    built_safe c.args.v.now c.args.table.now c.args.work.now (omega arith) (omega arith) r.result r.new.table r.new.work r.ensures _ c.fill.new.buf c.in-Ok.is c.fill.ensures
