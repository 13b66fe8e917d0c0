-- A value that the list has.
use Rattle.std.proofs.Common.{ap, sym, ◌∙◌}
use Rattle.tasks.specs.Lists.{listed}
use Rattle.texts.proofs.PutLaws.{adds_none, adds_then, adds_as}
use Rattle.sheet_writer.proofs.Pages.{value_none, value_some}
use Rattle.sheet_writer.proofs.page.put_value.Goals as goal

pub returns-then-not-has : goal.returns-then-not-has
returns-then-not-has c =
    let a = c.args in
    adds_as (adds_none _) (value_none a.list a.v (sym (c.has.ensures ∙ ap (listed a.list) c.from.ensures) ∙ c.if-not-has.true))

pub returns : goal.returns
returns c =
    let a = c.args in
    adds_as (adds_then c.put_number.ensures c.put.ensures) (value_some a.list a.v (sym (c.has.ensures ∙ ap (listed a.list) c.from.ensures) ∙ c.if-not-has.false))
