-- The values below v are put, each with its comma.
use Rattle.std.proofs.Common.{◌-◌}
use Rattle.tasks.specs.Lists.{values}
use Rattle.texts.specs.Puts.{Adds}
use Rattle.sheet_form.specs.Form.{each, with_comma}
use Rattle.sheet_writer.proofs.page.put_list.Given as goal

abbrev pub invariant-loop-v : goal.invariant-loop-v
invariant-loop-v l = Adds l.initial.page l.page (each with_comma (values (l.v - 1) 1 l.list))
