-- The line grows shorter.
use Rattle.std.proofs.Common.{length}
use Rattle.commands.proofs.lines.+fit_row.Given as goal

abbrev pub decreases-fit_row : goal.decreases-fit_row
decreases-fit_row l = length l.line.now
