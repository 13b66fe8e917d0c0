-- The name between two words, a field more, and LF.
use Rattle.texts.proofs.PutLaws.{adds_then}
use Rattle.report_lines.specs.Lines.{set_line}
use Rattle.report_lines.proofs.put_set_line.Goals as goal

pub returns : goal.returns
unfolding set_line
returns c =
    let a = adds_then c.put_word.ensures c.put_name.ensures in
    adds_then (adds_then (adds_then a c.put_field.ensures) c.put_field-2.ensures) c.put.ensures
