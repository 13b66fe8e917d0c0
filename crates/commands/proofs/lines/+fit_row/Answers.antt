-- A word and a form at a time.
use Rattle.std.proofs.Common.{arith, sym, ◌∙◌}
use Rattle.commands.proofs.LineLaws.{fit_nothing, fit_last, fit_many, fit_on}
use Rattle.commands.proofs.lines.+fit_row.Goals as goal

pub returns-in_err-v : goal.returns-in_err-v
returns-in_err-v t c =
    let a = c.args in
    c.from_residual.ensures ∙ sym (fit_nothing a.lengths a.vs a.place a.row.now a.line.now c.find-stop.result c.find-end.result c.find-stop.ensures.value c.find-end.ensures.value c.value.result c.value.ensures c.in_err-v.was)

pub returns-then-end-line : goal.returns-then-end-line
returns-then-end-line t c =
    let a = c.args in
    c.then_some.ensures ∙ sym (fit_last a.lengths a.vs a.place a.row.now a.line.now c.find-stop.result c.find-end.result c.find-stop.ensures.value c.find-end.ensures.value c.value.result c.value.ensures _ c.in_ok-v.was _ c.keep-next.ensures c.if-end-line.true c.find-stop.ensures.inside)

pub returns-then-stop-row : goal.returns-then-stop-row
returns-then-stop-row t c =
    let a = c.args in
    sym (fit_many a.lengths a.vs a.place a.row.now a.line.now c.find-stop.result c.find-end.result c.find-stop.ensures.value c.find-end.ensures.value c.value.result c.value.ensures _ c.in_ok-v.was _ c.keep-next.ensures (omega arith) c.if-stop-row.true)

pub returns : goal.returns
returns t c =
    let a = c.args in
    fit_on a.lengths a.vs a.place a.row.now a.line.now c.find-stop.result c.find-end.result c.find-stop.ensures.value c.find-end.ensures.value c.value.result c.value.ensures _ c.in_ok-v.was _ c.keep-next.ensures (omega arith) (omega arith) _ c.fit_row.ensures
