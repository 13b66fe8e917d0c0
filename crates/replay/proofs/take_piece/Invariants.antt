-- The bytes before the index are taken.
use Rattle.replay.specs.Log.{logged_of, Goes, piece_after}
use Rattle.std.proofs.Common.{◌≡◌, drop}
use Rattle.replay.proofs.take_piece.Given as goal

abbrev pub invariant-loop-b : goal.invariant-loop-b
invariant-loop-b g l =
    Goes l.initial.g l.g l.initial.d l.d (logged_of l.g l.d)
    × (piece_after (drop l.b-index l.piece) (logged_of l.g l.d) ≡ piece_after l.piece (logged_of l.initial.g l.initial.d))
