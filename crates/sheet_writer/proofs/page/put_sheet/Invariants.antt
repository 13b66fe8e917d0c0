-- The lines of the tasks before t are put.
use Rattle.std.proofs.Common.{map, take}
use Rattle.texts.specs.Puts.{Adds}
use Rattle.sheet_form.specs.Form.{each, line_text}
use Rattle.sheet_form.specs.Sets.{line_of}
use Rattle.sheet_writer.proofs.page.put_sheet.Given as goal

abbrev pub invariant-loop-t : goal.invariant-loop-t
invariant-loop-t l = Adds l.initial.page l.page (each line_text (map line_of (take l.t-index l.fn.v.set.tasks)))
