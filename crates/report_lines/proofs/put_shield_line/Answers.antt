-- Three fields and LF.
use Rattle.texts.proofs.PutLaws.{adds_then}
use Rattle.report_lines.specs.Lines.{shield_line}
use Rattle.report_lines.proofs.put_shield_line.Goals as goal

pub returns : goal.returns
unfolding shield_line
returns c =
    let a = adds_then c.put_field.ensures c.put_field-2.ensures in
    adds_then (adds_then a c.put_field-3.ensures) c.put.ensures
