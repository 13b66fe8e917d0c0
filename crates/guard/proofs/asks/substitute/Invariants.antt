-- The best of the first k tasks.
use Rattle.std.proofs.Common.{◌≡◌, ◌≤◌}
use Rattle.guard.specs.Ask.{substitute_to}
use Rattle.guard.proofs.asks.substitute.Given as goal

abbrev pub invariant-loop-k : goal.invariant-loop-k
invariant-loop-k l = (l.best ≡ substitute_to l.f.v.set l.f.run.states l.entry l.k) × (l.best ≤ 7)
