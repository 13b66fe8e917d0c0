-- The local numbers of the first k tasks, and the index of those left.
use Rattle.std.proofs.Common.{refl, sym, ◌∙◌, ◌<◌, length, arith}
use borrow.Author.Count.{below_none}
use native.Mathlib.Nat.{div-one}
use lib.ListN.{length-set, get_or-replicate}
use lib.Seq.{get_or-set_other}
use Rattle.tasks.specs.Sets.{states_to}
use Rattle.game.proofs.StateLaws.{count_le, rest_step, locals_step}
use Rattle.game.proofs.states.locals_at.Goals as goal
use Rattle.game.proofs.states.locals_at.Goals.{After-locals-n}

pub loop-k-init : goal.loop-k-init
unfolding states_to
loop-k-init c = record { long = refl; rest = sym (div-one c.args.i); before = below_none _; beyond = λ j _ h. get_or-replicate 7 j 0 0 h }

pub loop-k-preserved : goal.loop-k-preserved
loop-k-preserved c = let l = c.loop-k in
    let a = c.args in
    let n = c.locals-n in
    let h : l.k < length l.d = omega (arith, count_le a.s c.requires) in
    record {
      long = simp length-set l.invariant.long;
      rest = rest_step a.s a.i l.k n.result l.rest l.invariant.rest n.ensures.value;
      before = locals_step a.s a.i l.k n.result l.rest l.invariant.rest n.ensures.value l.d h l.invariant.before;
      beyond = λ j p q. get_or-set_other l.d l.k j _ 0 (λ e. omega arith) ∙ l.invariant.beyond j (omega arith) q;
    }
