-- A byte at a time, over the same memory.
use Rattle.replay.proofs.LineLaws.{same_then, piece_next, piece_end}
use Rattle.std.proofs.Common.{sym, refl, ◌∙◌}
use Rattle.replay.proofs.take_piece.Goals as goal

pub loop-b-preserved : goal.loop-b-preserved
loop-b-preserved g c =
    let i = c.loop-b.invariant in
    let e = c.take_byte.ensures in
    (record { same = same_then i.0.same e.same; line = e.line ∙ i.0.line; kept = refl }, piece_next _ _ _ _ _ c.loop-b-test.true e.kept i.1)

pub returns : goal.returns
returns g c =
    let i = c.loop-b.invariant in
    record { same = i.0.same; line = i.0.line; kept = sym (piece_end _ _ _ c.loop-b-test.false) ∙ i.1 }
