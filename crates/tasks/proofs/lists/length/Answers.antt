-- The length is the number of ones.
use Rattle.tasks.specs.Lists.{length_of}
use Rattle.tasks.proofs.ListLaws.{ones_values}
use Rattle.tasks.proofs.lists.length.Goals as goal

pub returns : goal.returns
unfolding length_of
returns c = ones_values 16 1 c.args.list c.ranges.list.fits
