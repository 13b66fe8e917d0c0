-- Two fields and LF.
use Rattle.texts.proofs.PutLaws.{adds_then}
use Rattle.report_lines.specs.Lines.{refused_line}
use Rattle.report_lines.proofs.put_refused_line.Goals as goal

pub returns : goal.returns
unfolding refused_line
returns c =
    adds_then (adds_then c.put_field.ensures c.put_field-2.ensures) c.put.ensures
