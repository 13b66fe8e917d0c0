-- The values below v are put, each with its comma.
use Rattle.std.proofs.Common.{◌≡◌, ◌-◌, ap, arith}
use Rattle.tasks.specs.Lists.{values, longest_of}
use Rattle.tasks.proofs.ListLaws.{longest_pos, longest_le}
use Rattle.texts.proofs.PutLaws.{adds_none, adds_then, adds_as}
use Rattle.sheet_form.specs.Form.{each, decimal, with_comma}
use Rattle.sheet_form.proofs.Lengths.{top_text}
use Rattle.sheet_writer.proofs.Pages.{value_more}
use Rattle.sheet_writer.proofs.page.put_list.Goals as goal

pub overflow_cast-top : goal.overflow_cast-top
overflow_cast-top c = omega (arith, longest_le c.args.list)

pub loop-v-init : goal.loop-v-init
unfolding values
loop-v-init c = adds_none _

pub put_value-requires : goal.put_value-requires
put_value-requires c = omega (arith, longest_le c.args.list)

pub loop-v-preserved : goal.loop-v-preserved
loop-v-preserved c =
    let m = c.args.list in
    let l = c.loop-v in
    adds_as (adds_then l.invariant c.put_value.ensures) (value_more m l.v (omega arith) (omega (arith, longest_le m)))

pub put_number-requires : goal.put_number-requires
put_number-requires c = omega (arith, longest_le c.args.list)

pub returns : goal.returns
returns c =
    let m = c.args.list in
    let l = c.loop-v in
    let t = c.longest-top.ensures in
    let e : l.v ≡ longest_of m = omega (arith, longest_pos m c.requires) in
    adds_as (adds_then (adds_as l.invariant (ap (λ n. each with_comma (values (n - 1) 1 m)) e)) (adds_as c.put_number.ensures (ap decimal t))) (top_text m c.requires)
