-- The longest value is the width less the leading zeros.
use native.Mathlib.Omega.{arith}
use lib.Count.{leading_le}
use Rattle.tasks.specs.Lists.{longest_of}
use Rattle.tasks.proofs.ListLaws.{leading_values}
use Rattle.tasks.proofs.lists.longest.Goals as goal

pub overflow_sub-result : goal.overflow_sub-result
overflow_sub-result c = omega (arith, leading_le 16 c.args.list)

pub returns : goal.returns
unfolding longest_of
returns c = omega (arith, leading_values 16 0 c.args.list c.ranges.list.fits)
