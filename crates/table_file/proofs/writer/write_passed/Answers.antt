-- A file's length fits 32 bits.
use Rattle.std.proofs.Common.{arith}
use Rattle.tasks.proofs.Valid.{passed_valid}
use Rattle.table_file.proofs.writer.write_passed.Goals as goal

pub overflow_cast-answer : goal.overflow_cast-answer
overflow_cast-answer c =
    let v = passed_valid c.args.v.set c.args.v.passed in
    omega (arith, v.count.1, v.states)
