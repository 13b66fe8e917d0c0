-- The page grows shorter.
use Rattle.std.proofs.Common.{length}
use Rattle.commands.proofs.lines.+first_row.Given as goal

abbrev pub decreases-first_row : goal.decreases-first_row
decreases-first_row l = length l.page.now
