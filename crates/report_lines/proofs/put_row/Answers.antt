-- The first index, the entries and LF.
use Rattle.texts.proofs.PutLaws.{adds_then}
use Rattle.report_lines.specs.Lines.{row_line}
use Rattle.report_lines.proofs.put_row.Goals as goal

pub returns : goal.returns
unfolding row_line
returns c =
    adds_then (adds_then c.put_field.ensures c.put_entries.ensures) c.put.ensures
