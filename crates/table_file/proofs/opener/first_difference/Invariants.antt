-- No byte from lo to before i differs.
use Rattle.std.proofs.Common.{◌≡◌, ◌-◌}
use Rattle.arena.specs.Tests.{first}
use Rattle.table_file.specs.Open.{differs, lowest}
use Rattle.table_file.proofs.opener.first_difference.Given as goal

abbrev pub invariant-loop-i : goal.invariant-loop-i
invariant-loop-i l = lowest l.v.set l.file l.lo l.hi ≡ first (differs l.v.set l.file) (l.hi - l.i) l.i
