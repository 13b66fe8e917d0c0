-- A file that opens has its header.
use Rattle.std.proofs.Common.{sym, arith}
use Rattle.table_file.proofs.Opening.{opening}
use Rattle.table_file.proofs.opener.open.Goals as goal

pub slice_bounds-result-count : goal.slice_bounds-result-count
slice_bounds-result-count c =
    let o = opening c.args.s c.args.file.now (sym c.in-Ok.ensures) in
    omega (arith, o.long)

pub slice_bounds-result-start : goal.slice_bounds-result-start
slice_bounds-result-start c =
    let o = opening c.args.s c.args.file.now (sym c.in-Ok.ensures) in
    omega (arith, o.long)
