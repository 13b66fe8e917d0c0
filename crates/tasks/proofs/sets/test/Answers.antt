-- The records before i are without fault.
use borrow.Author.Tests.{lt-ltb, le-ltb}
use mathlib.Core.Path.{sym, ap, subst, ◌∙◌}
use mathlib.Core.Bool.{true, false}
use native.Mathlib.Omega.{arith}
use lib.Dec.{T}
use Rattle.std.specs.Prelude.{Ok}
use Rattle.tasks.specs.Sets.{states_of, test_states}
use Rattle.tasks.proofs.SetLaws.{within_both, test_unnamed, test_counted, fault_here, fault_end, states_by}
use Rattle.tasks.proofs.sets.test.Goals.{then-not-name_fits-via-then-not-name_fits, then-not-name_fits-via-else-not-name_fits+then-not-from_to}
use Rattle.tasks.proofs.sets.test.Goals as goal

pub returns-then-not-name_fits : goal.returns-then-not-name_fits
returns-then-not-name_fits c =
    elim c.then-not-name_fits.branch [
      | then-not-name_fits-via-then-not-name_fits w ↦ sym (test_unnamed c.args.s (sym c.name_fits.ensures ∙ w.if-not-name_fits.true))
      | then-not-name_fits-via-else-not-name_fits+then-not-from_to w ↦
          sym (test_counted c.args.s false (sym c.name_fits.ensures ∙ w.if-not-name_fits.false) (sym w.from_to.ensures ∙ w.if-not-from_to.true))
    ]

pub loop-i-init : goal.loop-i-init
loop-i-init c = test_counted c.args.s true (sym c.name_fits.ensures ∙ c.if-not-name_fits.false) (sym c.from_to.ensures ∙ c.if-not-from_to.false)

pub returns-in-Some : goal.returns-in-Some
returns-in-Some c =
    let s = c.args.s in
    sym (c.loop-i.invariant ∙ fault_here s c.loop-i.i (test_states s) (omega arith) _ (sym c.in-Some.ensures))

pub loop-i-preserved : goal.loop-i-preserved
loop-i-preserved c =
    let s = c.args.s in
    c.loop-i.invariant ∙ fault_here s c.loop-i.i (test_states s) (omega arith) _ (sym c.in_default.ensures)

pub states-n-requires : goal.states-n-requires
states-n-requires c =
    let e = sym c.from_to.ensures ∙ c.if-not-from_to.false in
    (within_both 1 7 _ (subst T (sym e) tt)).1

pub returns-then-n-gt60000 : goal.returns-then-n-gt60000
returns-then-n-gt60000 c =
    let s = c.args.s in
    sym (c.loop-i.invariant ∙ fault_end s c.loop-i.i (test_states s) (omega arith) ∙ states_by s true (lt-ltb 60000 (states_of s) (omega (arith, c.states-n.ensures))))

pub returns : goal.returns
returns c =
    let s = c.args.s in
    sym (c.loop-i.invariant ∙ fault_end s c.loop-i.i (test_states s) (omega arith) ∙ states_by s false (le-ltb 60000 (states_of s) (omega (arith, c.states-n.ensures))) ∙ ap Ok (sym c.states-n.ensures))
