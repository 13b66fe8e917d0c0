-- The tasks left fall.
use Rattle.shield.proofs.walks.+walk_on.Given as goal

abbrev pub decreases-walk_on : goal.decreases-walk_on
decreases-walk_on l = l.k
