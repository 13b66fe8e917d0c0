-- The closure's calls at 0 to 6.
use Rattle.std.proofs.Common.{rules}
use Rattle.guard.specs.Runs.{place_fits}
use Rattle.guard.proofs.RunLaws.{all_ran}
use Rattle.guard.proofs.runs.places_fit.Goals as goal

pub returns : goal.returns
returns c = all_ran 7 (place_fits c.args.s.now c.args.r.now) _ _ _ c.all.ensures.ran (λ x b q k. search rules)
