-- A place within the text, or the one that was given.
use Rattle.std.proofs.Common.{ap, arith, drop, length-drop}
use Rattle.sheet_scan.specs.declared.Scanned.{Scanned}
use Rattle.sheet_reader.proofs.Passes.{scan_within}
use Rattle.sheet_reader.proofs.place_after.Goals as goal

pub overflow_add-result : goal.overflow_add-result
overflow_add-result c =
    let a = c.args in
    omega (arith, scan_within (drop a.at a.text.now), length-drop a.at a.text.now, ap (λ (s : Scanned). s.reach) c.scan.ensures)
