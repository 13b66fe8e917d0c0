-- What the reader answers.
use Rattle.std.proofs.Common.{refl, rules}
use Rattle.reporter.proofs.Reports.{refused_short, tells_as, told_taken, told_refused}
use Rattle.reporter.proofs.put_sheet.Goals as goal

pub returns-in-Ok : goal.returns-in-Ok
returns-in-Ok c =
    let a = c.args in
    tells_as c.put_set.ensures
    (told_taken a.sheet.now a.table.now a.work.now c.read-answer.result c.read-answer.ensures c.in-Ok.is)

pub returns-in-Err : goal.returns-in-Err
returns-in-Err c =
    let a = c.args in
    let f = c.in-Err.f in
    tells_as (record { text = c.put_refused.ensures; short = refused_short _ f.place (search rules) (search rules); table = refl; work = refl })
    (told_refused a.sheet.now a.table.now a.work.now c.read-answer.result c.read-answer.ensures f c.in-Err.is)
