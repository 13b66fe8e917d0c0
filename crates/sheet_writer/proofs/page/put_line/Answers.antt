-- The parts of a line, one after the other.
use Rattle.texts.proofs.PutLaws.{adds_then}
use Rattle.sheet_form.specs.Form.{line_text}
use Rattle.sheet_writer.proofs.page.put_line.Goals as goal

pub returns : goal.returns
unfolding line_text
returns c =
    let a = adds_then (adds_then c.put_kind.ensures c.put_number.ensures) c.put.ensures in
    let b = adds_then (adds_then a c.put_list.ensures) c.put-2.ensures in
    adds_then (adds_then b c.put_list-2.ensures) c.put-3.ensures
