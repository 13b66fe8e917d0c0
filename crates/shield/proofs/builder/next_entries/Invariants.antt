-- The entries before i.
use Rattle.std.proofs.Common.{◌++◌, ◌≡◌, drop}
use Rattle.shield.specs.Entries.{list_to}
use Rattle.shield.specs.Shield.{next_entry}
use Rattle.shield.proofs.builder.next_entries.Given as goal

abbrev pub invariant-loop-i : goal.invariant-loop-i
invariant-loop-i l = l.work ≡ list_to (next_entry l.v.set l.table) l.i ++ drop l.i l.initial.work
