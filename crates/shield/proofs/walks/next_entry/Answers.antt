-- The choices before this one that the entry names and that are fine.
use Rattle.std.proofs.Common.{Bool, ◌&&◌, List, ◌≡◌, sym, ap, ap₂, ◌∙◌, ℕ, ◌+◌, arith}
use Rattle.tasks.specs.declared.sets.Set.{Set}
use Rattle.arena.specs.Arena.{fine}
use Rattle.game.specs.Game.{arena_of}
use Rattle.shield.specs.Entries.{names, marks, entry_at, live}
use Rattle.shield.specs.Shield.{next_entry}
use Rattle.shield.proofs.FineLaws.{marks_on, marks_off}
use Rattle.shield.proofs.walks.next_entry.Goals as goal
use Rattle.shield.proofs.walks.next_entry.Goals.{then-still_fine, else-still_fine}

-- what is asked of each choice
abbrev still : Set → List ℕ → ℕ → ℕ → Bool
still s table i c = names (entry_at table i) c && fine (arena_of s) (live table) i c

pub loop-choice-preserved : goal.loop-choice-preserved
loop-choice-preserved c =
    let l = c.loop-choice in
    let f = still c.args.v.now.set c.args.table.now c.args.i in
    let e = c.still_fine.ensures in
    elim c.if-still_fine.branch [ then-still_fine w ↦ w.entry-is ∙ ap₂ (λ x y. x + y) l.invariant w.only-entry.ensures ∙ marks_on l.choice f (sym e ∙ w.if-still_fine.true) | else-still_fine w ↦ w.entry-is ∙ l.invariant ∙ marks_off l.choice f (sym e ∙ w.if-still_fine.false) ]

pub returns : goal.returns
unfolding next_entry
returns c =
    let e : c.loop-choice.choice ≡ 8 = omega arith in
    c.loop-choice.invariant ∙ ap (λ n. marks n (still c.args.v.now.set c.args.table.now c.args.i)) e
