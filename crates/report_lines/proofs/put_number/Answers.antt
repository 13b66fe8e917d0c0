-- What the library writes for a number is its text.
use mathlib.Core.Path.{sym, ◌∙◌}
use Rattle.texts.proofs.PutLaws.{adds_as}
use Rattle.report_lines.proofs.Numbers.{number_decimal}
use Rattle.report_lines.proofs.put_number.Goals as goal

pub returns : goal.returns
returns c =
    adds_as c.put_word.ensures (c.as_bytes.ensures.value ∙ c.format.ensures.text ∙ sym (number_decimal c.args.n c.ranges.n.fits))
