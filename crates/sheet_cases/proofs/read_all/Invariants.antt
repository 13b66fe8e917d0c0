-- A case at a time.
use Rattle.std.proofs.Common.{length}
use Rattle.sheet_cases.proofs.read_all.Given as goal

abbrev pub decreases-loop-left : goal.decreases-loop-left
decreases-loop-left g l = length l.left
