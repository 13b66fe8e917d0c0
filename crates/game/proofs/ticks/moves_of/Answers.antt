-- The summary of the moves.
use Rattle.game.proofs.TickLaws.{summarised}
use Rattle.game.proofs.ticks.moves_of.Goals as goal
use Rattle.game.proofs.ticks.moves_of.Goals.{After-longest-cmax}

pub returns-then-run : goal.returns-then-run
returns-then-run c = let a = c.args in
    let h = c.requires in
    let w = summarised a.t a.run a.local h.local_bound h.t _ (simp (c.both-late.ensures, c.both.ensures, c.both-then-run.ensures, c.both-then-run-2.ensures, c.then_some-then-run.ensures, c.then_some.ensures, c.has-done.ensures, c.if-run.true, c.longest.ensures, c.has-comes.ensures, c.from.ensures, c.longest-cmax.ensures)) in record { by_index = w.0; exactly = w.1 }

pub returns : goal.returns
returns c = let a = c.args in
    let h = c.requires in
    let w = summarised a.t a.run a.local h.local_bound h.t _ (simp (c.both-late.ensures, c.both-2.ensures, c.then_some-2.ensures, c.if-run.false, c.longest.ensures, c.has-comes.ensures, c.from.ensures, c.longest-cmax.ensures)) in record { by_index = w.0; exactly = w.1 }
