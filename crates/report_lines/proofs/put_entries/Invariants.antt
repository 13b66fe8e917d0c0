-- The entries before the index are put.
use lib.ListN.{take}
use Rattle.sheet_form.specs.Form.{each}
use Rattle.texts.specs.Puts.{Adds}
use Rattle.texts.specs.Texts.{bytes}
use Rattle.report_lines.specs.Lines.{field}
use Rattle.report_lines.proofs.put_entries.Given as goal

abbrev pub invariant-loop-e : goal.invariant-loop-e
invariant-loop-e l = Adds l.initial.page l.page (each (field (bytes " ")) (take l.e-index l.entries))
