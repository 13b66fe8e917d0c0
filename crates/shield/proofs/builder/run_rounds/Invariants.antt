-- Before each turn the table is that after as many rounds as were counted, and the start is left.
use mathlib.Core.List.{List, ◌++◌}
use mathlib.Core.Path.{◌≡◌}
use Prim.Native.Nat.{ℕ, ◌≤◌}
use lib.Dec.{T}
use lib.ListN.{drop}
use Rattle.arena.specs.Arena as Arena
use Rattle.arena.specs.Tests.{count}
use Rattle.tasks.specs.declared.sets.Set.{Set}
use Rattle.game.specs.Game.{arena_of}
use Rattle.shield.specs.Shield.{table_after}
use Rattle.shield.proofs.builder.run_rounds.Given as goal

pub record Kept (s : Set) (t w : List ℕ) (n : ℕ) (t' w' : List ℕ) (k r : ℕ) : Type 0 where
  pub table : t' ≡ table_after s r ++ drop n t
  pub beyond : drop n w' ≡ drop n w
  pub rounds : r ≤ Arena.R (arena_of s)
  pub left : k ≡ count n (Arena.left (arena_of s) r)
  pub start : T (Arena.left (arena_of s) r 0)

abbrev pub invariant-loop-table : goal.invariant-loop-table
invariant-loop-table l = Kept l.v.set l.initial.table l.initial.work l.v.states l.table l.work l.left l.rounds

abbrev pub decreases-loop-table : goal.decreases-loop-table
decreases-loop-table l = l.left
