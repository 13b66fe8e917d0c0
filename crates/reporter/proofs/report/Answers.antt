-- The room first; then the lines.
use Rattle.std.proofs.Common.{arith}
use Rattle.reporter.proofs.Reports.{report_short, report_fits}
use Rattle.reporter.proofs.report.Goals as goal

pub returns-then-output-lt-ROOM : goal.returns-then-output-lt-ROOM
returns-then-output-lt-ROOM c =
    let a = c.args in
    report_short a.sheet.now a.table.now a.work.now a.output.now (omega arith)

pub returns : goal.returns
returns c =
    let a = c.args in
    report_fits a.sheet.now a.table.now a.work.now a.output.now _ _ _ _ (omega arith) c.put_sheet.ensures
