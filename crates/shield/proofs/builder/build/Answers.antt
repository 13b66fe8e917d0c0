-- A set refused by its own test.
use Rattle.std.proofs.lemmas.Result.{err_from_is_err_and}
use Rattle.shield.proofs.BuildLaws.{built_refused}
use Rattle.shield.proofs.builder.build.Goals as goal

pub returns-in_err-v : goal.returns-in_err-v
returns-in_err-v c = let a = c.args in
    let p = err_from_is_err_and c.from_residual.result c.from_residual.ensures.1 in
    rw (p.1, p.2) (built_refused a.s a.table.now a.work.now _ c.in_err-v.ensures.err)
