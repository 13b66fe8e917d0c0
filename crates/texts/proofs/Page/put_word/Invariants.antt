-- The bytes before the index are put.
use lib.ListN.{take}
use Rattle.texts.specs.Puts.{Adds}
use Rattle.texts.proofs.Page.put_word.Given as goal

abbrev pub invariant-loop-b : goal.invariant-loop-b
invariant-loop-b l = Adds l.initial.self l.self (take l.b-index l.word)
