-- The lines of the tasks before t are put.
use Rattle.std.proofs.Common.{◌≡◌, ap, sym, subst, arith, rules, take, map, length-take}
use Rattle.tasks.proofs.Valid.{passed_valid}
use Rattle.tasks.specs.Valid.{ValidTask}
use Rattle.texts.proofs.PutLaws.{puts_in, adds_then, adds_as}
use Rattle.sheet_form.specs.Form.{each, line_text}
use Rattle.sheet_form.specs.Sets.{line_of}
use Rattle.sheet_form.proofs.Valid.{counted}
use Rattle.sheet_writer.proofs.Pages.{line_more, inside, its_task}
use Rattle.sheet_writer.proofs.page.put_sheet.Goals as goal

pub shared_ref_as_front-t-items : goal.shared_ref_as_front-t-items
shared_ref_as_front-t-items c = let v = passed_valid c.args.v.set c.args.v.passed in omega (arith, v.count.1)

pub put_line-requires : goal.put_line-requires
put_line-requires c =
    let s = c.args.v.set in
    let i = c.loop-t.t-index in
    let v = passed_valid s c.args.v.passed in
    let h = c.loop-t-test.true in
    subst ValidTask (sym (its_task s v _ i c.from.ensures h)) (v.tasks i (inside s v _ i c.from.ensures h).0)

pub loop-t-preserved : goal.loop-t-preserved
loop-t-preserved c =
    let s = c.args.v.set in
    let l = c.loop-t in
    let v = passed_valid s c.args.v.passed in
    let h = c.loop-t-test.true in
    let line = adds_as c.put_line.ensures (ap (λ t. line_text (line_of t)) (its_task s v _ l.t-index c.from.ensures h)) in
    adds_as (adds_then l.invariant line) (line_more s.tasks l.t-index (inside s v _ l.t-index c.from.ensures h).1)

pub returns : goal.returns
returns c =
    let s = c.args.v.set in
    let l = c.loop-t in
    let e : l.t-index ≡ s.count = omega (arith, counted s (passed_valid s c.args.v.passed), length-take c.from.result s.tasks) in
    let h = adds_then (adds_then c.put_word.ensures c.put_name.ensures) c.put.ensures in
    let k = (adds_then h (adds_as l.invariant (ap (λ n. each line_text (map line_of (take n s.tasks))) e))) in
    puts_in k.puts (search (rules, k.same))
