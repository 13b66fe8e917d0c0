-- Nothing but zero bytes from the last character to i.
use Rattle.std.specs.Prelude.{◌≡◌, drop}
use Rattle.tasks.specs.Sets.{zeros}
use Rattle.tasks.proofs.sets.name_fits.Given as goal

abbrev pub invariant-loop-i : goal.invariant-loop-i
invariant-loop-i l = zeros (drop l.n l.name) ≡ zeros (drop l.i l.name)
