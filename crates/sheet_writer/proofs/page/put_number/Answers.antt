-- One digit, or two.
use mathlib.Core.Path.{sym}
use native.Mathlib.Omega.{arith}
use Rattle.texts.proofs.PutLaws.{adds_then, adds_as}
use Rattle.sheet_form.proofs.Shown.{decimal_low, decimal_high}
use Rattle.sheet_writer.proofs.page.put_number.Goals as goal

pub returns-then-v-lt10 : goal.returns-then-v-lt10
returns-then-v-lt10 c = adds_as c.put.ensures (sym (decimal_low c.args.v (omega (arith, c.if-v-lt10.true))))

pub returns : goal.returns
returns c =
    adds_as (adds_then c.put-2.ensures c.put-3.ensures) (sym (decimal_high c.args.v (omega (arith, c.if-v-lt10.false))))
