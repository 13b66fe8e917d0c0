-- The digits before the index say v.
use mathlib.Core.Bool.{true}
use mathlib.Core.Path.{◌≡◌}
use lib.ListN.{drop}
use Rattle.commands.specs.Words.{each, digit, decimal_from, well_begun}
use Rattle.commands.proofs.numbers.number.Given as goal

abbrev pub invariant-loop-b : goal.invariant-loop-b
invariant-loop-b l = (each digit l.word ≡ each digit (drop l.b-index l.word)) × (decimal_from 0 l.word ≡ decimal_from l.v (drop l.b-index l.word)) × (well_begun l.word ≡ true)
