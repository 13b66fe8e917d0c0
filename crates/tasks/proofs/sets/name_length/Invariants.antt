-- The characters before n, and those from n on.
use Rattle.std.specs.Prelude.{◌≡◌, ◌+◌, drop}
use Rattle.tasks.specs.Sets.{characters}
use Rattle.tasks.proofs.sets.name_length.Given as goal

abbrev pub invariant-loop-n : goal.invariant-loop-n
invariant-loop-n l = characters l.name ≡ l.n + characters (drop l.n l.name)
