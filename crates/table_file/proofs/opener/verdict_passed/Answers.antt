-- A file's length fits 32 bits.
use Rattle.std.proofs.Common.{arith}
use Rattle.tasks.proofs.Valid.{passed_valid}
use Rattle.table_file.proofs.opener.verdict_passed.Goals as goal

pub overflow_cast-result-then-file-length : goal.overflow_cast-result-then-file-length
overflow_cast-result-then-file-length c =
    let v = passed_valid c.args.v.set c.args.v.passed in
    omega (arith, v.count.1, v.states)
