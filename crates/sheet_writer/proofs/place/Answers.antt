-- The page's first bytes, where the buffer has room for them.
use Rattle.std.proofs.Common.{◌≡◌, ◌≤◌, ◌++◌, ap, ◌∙◌, arith, rules, length, take, drop}
use Rattle.tasks.proofs.Valid.{passed_valid}
use Rattle.texts.proofs.PutLaws.{puts_whole, puts_take}
use Rattle.sheet_form.specs.Form.{longest}
use Rattle.sheet_form.specs.Sets.{text_of}
use Rattle.sheet_form.proofs.Lengths.{sheet_short}
use Rattle.sheet_writer.proofs.Placed.{placed_short, placed_fits}
use Rattle.sheet_writer.proofs.place.Goals as goal
use Rattle.sheet_writer.proofs.place.Goals.{After-put_sheet-n}

-- the sheet fits the page, and is what the page begins with
short : (c : After-put_sheet-n) → length (text_of c.args.v.set) ≤ longest
short c = let l : length c.args.v.set.name ≡ 16 = search rules in sheet_short c.args.v.set l (passed_valid c.args.v.set c.args.v.passed)

size : (c : After-put_sheet-n) → c.put_sheet-n.result ≡ length (text_of c.args.v.set)
size c = (puts_whole c.put_sheet-n.ensures (omega (arith, short c))).0

first : (c : After-put_sheet-n) → take c.put_sheet-n.result c.put_sheet-n.new.buf ≡ text_of c.args.v.set
first c = puts_take c.put_sheet-n.ensures (omega (arith, short c))

pub returns-then-buf-n : goal.returns-then-buf-n
returns-then-buf-n c =
    let a = c.args in
    placed_short (text_of a.v.set) a.buf.now c.put_sheet-n.result (size (goal.at.returns-then-buf-n c).After-put_sheet-n) (omega (arith, c.if-buf-n.true))

pub returns : goal.returns
returns c =
    let a = c.args in
    let n = c.put_sheet-n.result in
    let p = (goal.at.returns c).After-put_sheet-n in
    placed_fits (text_of a.v.set) a.buf.now n (size p) _ (omega (arith, c.if-buf-n.false, size p, short p)) (ap (λ l. l ++ drop n a.buf.now) (c.copy_from_slice.ensures.after ∙ first p))
