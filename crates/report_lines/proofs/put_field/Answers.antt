-- The word, then the number.
use Rattle.texts.proofs.PutLaws.{adds_then}
use Rattle.report_lines.specs.Lines.{field}
use Rattle.report_lines.proofs.put_field.Goals as goal

pub returns : goal.returns
unfolding field
returns c = adds_then c.put_word.ensures c.put_number.ensures
