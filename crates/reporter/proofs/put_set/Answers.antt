-- What the builder answers, and what it leaves.
use Rattle.std.proofs.Common.{Ok, ◌≡◌, ap, arith, rules, length}
use Rattle.texts.proofs.PutLaws.{puts_as}
use Rattle.reporter.specs.Report.{built_text}
use Rattle.reporter.proofs.Reports.{done_short, refused_short, tells_built}
use Rattle.reporter.proofs.put_set.Goals as goal

pub returns-in-Ok : goal.returns-in-Ok
returns-in-Ok c =
    let a = c.args in
    let h : length a.set.name ≡ 16 = search rules in
    let e : c.unwrap.result.set ≡ a.set = search rules in
    tells_built a.set a.table.now a.work.now _ _ _ c.in-Ok.ensures (puts_as c.put_done.ensures (ap (λ s. built_text s (Ok c.in-Ok.built)) e))
    (done_short a.set a.table.now a.work.now _ _ c.in-Ok.built c.in-Ok.ensures (omega arith))

pub returns-in-Err : goal.returns-in-Err
returns-in-Err c =
    let a = c.args in
    let f = c.in-Err.f in
    tells_built a.set a.table.now a.work.now _ _ _ c.in-Err.ensures c.put_refused.ensures (refused_short _ f.place (search rules) (search rules))
