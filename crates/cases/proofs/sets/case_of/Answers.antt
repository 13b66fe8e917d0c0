-- Behind N records of seven there are 7 - N.
use Rattle.std.proofs.lemmas.List.{drop-replicate}
use Rattle.tasks.specs.Sets.{no_task}
use Rattle.cases.proofs.sets.case_of.Goals as goal

pub returns : goal.returns
returns g c = let blank = drop-replicate g.row.N 7 no_task in cc
