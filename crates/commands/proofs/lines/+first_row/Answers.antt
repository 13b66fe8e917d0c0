-- A row at a time.
use Rattle.std.proofs.Common.{arith, sym}
use Rattle.commands.proofs.LineLaws.{row_fits, row_last, row_on}
use Rattle.commands.proofs.lines.+first_row.Goals as goal

pub returns-in-Some : goal.returns-in-Some
returns-in-Some t c =
    let a = c.args in
    sym (row_fits a.lengths a.kind a.page.now a.line.now c.find-stop.result c.find-stop.ensures.value c.fit_row.result c.fit_row.ensures _ c.in-Some.is)

pub returns-then-stop-page : goal.returns-then-stop-page
returns-then-stop-page t c =
    let a = c.args in
    sym (row_last a.lengths a.kind a.page.now a.line.now c.find-stop.result c.find-stop.ensures.value c.fit_row.result c.fit_row.ensures c.in_default.is c.if-stop-page.true)

pub returns : goal.returns
returns t c =
    let a = c.args in
    row_on a.lengths a.kind a.page.now a.line.now c.find-stop.result c.find-stop.ensures.value c.fit_row.result c.fit_row.ensures c.in_default.is (omega arith) _ c.first_row.ensures
