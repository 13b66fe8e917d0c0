-- The bytes before i are a beginning of some sheet, s is what is kept of them, and name, count and tasks are the set that they say.
use Rattle.sheet_scan.proofs.Scans.{SoFar}
use Rattle.sheet_scan.proofs.scan.Given as goal

abbrev pub invariant-loop-i : goal.invariant-loop-i
invariant-loop-i l = SoFar l.rest l.s (record { name = l.name; count = l.s.count; tasks = l.tasks }) l.i
