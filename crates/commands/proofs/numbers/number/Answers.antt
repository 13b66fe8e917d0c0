-- The digits before the index say v.
use Rattle.std.proofs.Common.{rules}
use Rattle.commands.proofs.WordLaws.{each_fails, each_next, each_end, decimal_next, decimal_end, decimal_grows, digit_low, number_begun, number_digits, number_low, number_high, number_taken}
use mathlib.Core.Path.{sym, ◌∙◌}
use Prim.Native.Nat.{◌<◌, ◌≤◌}
use native.Mathlib.Omega.{arith}
use lib.ListN.{length, drop}
use Rattle.commands.specs.Words.{digit}
use Rattle.commands.proofs.numbers.number.Goals as goal
use Rattle.commands.proofs.numbers.number.Goals.{then-not-is_digit-via-then-not-is_digit, then-not-is_digit-via-else-not-is_digit+then-r-v}

pub returns-then-not-is_well_begun : goal.returns-then-not-is_well_begun
returns-then-not-is_well_begun c = sym (number_begun _ _ _ (sym c.is_well_begun.ensures ∙ c.if-not-is_well_begun.true))

pub returns-then-not-is_digit : goal.returns-then-not-is_digit
returns-then-not-is_digit c = let w = c.args.word.now in let i = c.loop-b.b-index in
    elim c.then-not-is_digit.branch [
      | then-not-is_digit-via-then-not-is_digit d ↦ sym (number_digits _ _ _ (c.loop-b.invariant.0 ∙ each_fails digit w i (omega arith) (sym c.is_digit.ensures ∙ d.if-not-is_digit.true)))
      | then-not-is_digit-via-else-not-is_digit+then-r-v d ↦ sym (number_high _ _ _ (omega (arith, d.if-r-v.true, c.loop-b.invariant.1, decimal_grows (drop i w) c.loop-b.v)))
    ]

pub longer-v-requires : goal.longer-v-requires
longer-v-requires c = (omega arith, digit_low _ (sym c.is_digit.ensures ∙ c.if-not-is_digit.false))

pub loop-b-preserved : goal.loop-b-preserved
loop-b-preserved c = let w = c.args.word.now in let i = c.loop-b.b-index in
    let h : i < length w = omega arith in (
      c.loop-b.invariant.0 ∙ each_next digit w i h (sym c.is_digit.ensures ∙ c.if-not-is_digit.false),
      c.loop-b.invariant.1 ∙ decimal_next w i c.loop-b.v h ∙ rw c.longer-v.ensures,
      c.loop-b.invariant.2,
    )

pub returns-then-contains : goal.returns-then-contains
returns-then-contains c = let w = c.args.word.now in let i = c.loop-b.b-index in
    let h : length w ≤ i = omega arith in
    search (rules, number_taken c.args.r.start c.args.r.end w c.loop-b.v c.loop-b.invariant.2 (c.loop-b.invariant.0 ∙ each_end digit w i h) (c.loop-b.invariant.1 ∙ decimal_end w i c.loop-b.v h))

pub returns-else-contains : goal.returns-else-contains
returns-else-contains c = let w = c.args.word.now in
    let e = c.loop-b.invariant.1 ∙ decimal_end w c.loop-b.b-index c.loop-b.v (omega arith) in
    search (rules, number_low, number_high, e)
