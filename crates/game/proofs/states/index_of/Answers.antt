-- The index of the first k tasks' states.
use Rattle.std.proofs.Common.{refl, ◌∙◌, ◌+◌, ◌*◌, ◌^◌, ◌<◌, arith}
use native.Mathlib.Nat.{add_comm, mul_comm}
use Rattle.tasks.specs.Sets.{states_to}
use Rattle.tasks.proofs.SetLaws.{states_step, bound_step, bound_top}
use Rattle.game.specs.States.{index_to}
use Rattle.game.proofs.StateLaws.{count_le, index_step, index_bound, index_top}
use Rattle.game.proofs.states.index_of.Goals as goal
use Rattle.game.proofs.states.index_of.Goals.{After-local_number}

pub loop-k-init : goal.loop-k-init
unfolding states_to index_to
loop-k-init c = record { weight = refl; light = omega arith; at = refl; low = omega arith }

top : (c : After-local_number) → let l = c.loop-k in c.local_number.result * l.weight + l.at < 2 ^ 64
top c = let l = c.loop-k in
    index_top l.k l.at l.weight c.local_number.result (omega (arith, count_le c.args.s c.requires)) l.invariant.low l.invariant.light c.local_number.ensures.small

pub overflow_mul-at : goal.overflow_mul-at
overflow_mul-at c = omega (arith, top c)

pub overflow_add-at : goal.overflow_add-at
overflow_add-at c = omega (arith, top c)

pub overflow_mul-weight : goal.overflow_mul-weight
overflow_mul-weight c = let l = c.loop-k in
    record { fits = omega (arith, count_le c.args.s c.requires, bound_top (l.k + 1) _ (bound_step l.k l.weight c.locals.result l.invariant.light c.locals.ensures.small) (omega (arith, count_le c.args.s c.requires))) }

pub loop-k-preserved : goal.loop-k-preserved
loop-k-preserved c = let l = c.loop-k in
    let a = c.args in
    let x = c.local_number in
    let n = c.locals in
    record {
      weight = mul_comm l.weight n.result ∙ states_step a.s l.k l.weight n.result l.invariant.weight n.ensures.value;
      light = omega (arith, bound_step l.k l.weight n.result l.invariant.light n.ensures.small);
      at = add_comm l.at _ ∙ index_step a.s a.xs l.k l.at l.weight x.result l.invariant.at l.invariant.weight x.ensures.value;
      low = omega (arith, index_bound l.k l.at l.weight x.result l.invariant.low l.invariant.light x.ensures.small);
    }
