-- The entries before the index are put.
use native.Mathlib.Numerals.{add-one}
use mathlib.Core.Path.{refl}
use lib.Seq.{take-suc}
use Rattle.sheet_form.proofs.Tests.{each_snoc}
use Rattle.texts.proofs.PutLaws.{adds_then, adds_as}
use Rattle.report_lines.proofs.put_entries.Goals as goal

pub loop-e-preserved : goal.loop-e-preserved
loop-e-preserved c =
    let h = c.loop-e-test.true in
    adds_as (adds_then c.loop-e.invariant c.put_field.ensures) (rw (add-one, take-suc c.args.entries.now c.loop-e.e-index 0 h, each_snoc) refl)
