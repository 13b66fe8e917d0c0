-- The shortest value is one more than the trailing zeros.
use native.Mathlib.Omega.{arith}
use lib.Count.{trailing_le}
use Rattle.tasks.specs.Lists.{shortest_of}
use Rattle.tasks.proofs.ListLaws.{trailing_values}
use Rattle.tasks.proofs.lists.shortest.Goals as goal

pub overflow_add-result : goal.overflow_add-result
overflow_add-result c = omega (arith, trailing_le 16 c.args.list)

pub returns : goal.returns
unfolding shortest_of
returns c = omega (arith, trailing_values 16 1 c.args.list)
