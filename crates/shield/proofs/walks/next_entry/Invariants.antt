-- The choices before this one that the entry names and that are fine.
use Rattle.std.proofs.Common.{◌≡◌, ◌&&◌}
use Rattle.arena.specs.Arena.{fine}
use Rattle.game.specs.Game.{arena_of}
use Rattle.shield.specs.Entries.{names, marks, entry_at, live}
use Rattle.shield.proofs.walks.next_entry.Given as goal

abbrev pub invariant-loop-choice : goal.invariant-loop-choice
invariant-loop-choice l = l.entry ≡ marks l.choice (λ c. names (entry_at l.table l.i) c && fine (arena_of l.v.set) (live l.table) l.i c)
