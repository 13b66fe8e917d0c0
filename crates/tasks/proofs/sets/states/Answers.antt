-- The states of the tasks before t.
use Rattle.std.proofs.Common.{rules}
use mathlib.Core.Path.{ap, ◌∙◌}
use Prim.Native.Nat.{◌+◌}
use native.Mathlib.Omega.{arith}
use Rattle.std.proofs.lemmas.List.{get_or-take}
use Rattle.std.proofs.Common.{length-take}
use Rattle.tasks.specs.Sets.{locals_of, states_to}
use Rattle.tasks.proofs.SetLaws.{states_step, bound_step, bound_top}
use Rattle.tasks.proofs.sets.states.Goals as goal

pub loop-t-init : goal.loop-t-init
unfolding states_to
loop-t-init c = search rules

pub overflow_mul-n : goal.overflow_mul-n
overflow_mul-n c =
    let l = c.loop-t in
    record { fits = omega (arith, bound_top (l.t-index + 1) _ (bound_step l.t-index l.n c.from-n.result l.invariant.1 (omega (arith, c.from-n.ensures, c.locals.ensures.small))) (omega arith)) }

pub loop-t-preserved : goal.loop-t-preserved
loop-t-preserved c =
    let l = c.loop-t in
    (states_step c.args.s l.t-index l.n c.from-n.result l.invariant.0 (c.from-n.ensures ∙ c.locals.ensures.value ∙ ap locals_of (get_or-take c.from.result c.args.s.tasks l.t-index _ (omega (arith, length-take c.from.result c.args.s.tasks)))), bound_step l.t-index l.n c.from-n.result l.invariant.1 (omega (arith, c.from-n.ensures, c.locals.ensures.small)))
