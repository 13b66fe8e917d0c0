-- The closure's calls at 0 to 7.
use Rattle.std.proofs.Common.{rules}
use Rattle.guard.specs.Ask.{serves_for}
use Rattle.guard.proofs.RunLaws.{all_ran}
use Rattle.guard.proofs.asks.names_legal.Goals as goal

pub returns : goal.returns
returns c = all_ran 8 (serves_for c.args.f.now.v.set c.args.f.now.run.states c.args.entry) _ _ _ c.all.ensures.ran (λ x b q k. search rules)
