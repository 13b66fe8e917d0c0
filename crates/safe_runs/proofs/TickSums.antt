-- A tick keeps the sum of a task's jobs, and its state in range. Assumes nothing.
use mathlib.Core.Path.{◌≡◌, refl, sym, ap, subst, ◌∙◌}
use mathlib.Core.Logic.{⊎_elim}
use mathlib.Core.Bool.{Bool, true, false, not, ◌&&◌, cond}
use Prim.Native.Nat.{ℕ, ◌+◌}
use native.Mathlib.Omega.{arith}
use lib.Dec.{T}
use Rattle.arena.specs.Tests.{one}
use Rattle.arena.proofs.Tests.{decide, T_true, T_false, one_le}
use Rattle.tasks.specs.declared.sets.Task.{Task}
use Rattle.tasks.specs.Valid.{ValidTask}
use Rattle.game.specs.declared.states.Job.{Job}
use Rattle.game.specs.declared.states.Job.TheVariants.{Empty, InHand}
use Rattle.game.specs.declared.states.TaskState.{TaskState}
use Rattle.game.specs.declared.ticks.Ticked.{Ticked}
use Rattle.game.specs.declared.ticks.Ticked.TheVariants.{Impossible, Missed, Next}
use Rattle.game.specs.declared.ticks.Flags.{Flags}
use Rattle.game.specs.Ticks.{in_hand, can_finish, can, job_after, late, arrived, tick_of}
use Rattle.game.proofs.Sound.{ranged, tick_range, possible}
use Rattle.guard.specs.declared.runs.Counts.{Counts}
use Rattle.guard.specs.Report.{is_impossible, is_missed, counts_after, state_after}
use Rattle.guard.proofs.RunLaws.{Fit}

module _ (τ : Task) (run : Bool) (x : TaskState) (f : Flags) where
  -- the state after a tick that is no miss
  abbrev then : TaskState
  then = arrived f.arrives x.age (job_after run f.finishes x.job)

  by_can : (b : Bool) → can τ run x f ≡ b → tick_of τ run x f ≡ cond b (cond (late τ (x.age + 1) (job_after run f.finishes x.job)) Missed (Next then)) Impossible
  unfolding tick_of
  by_can b e = ap (λ b. cond b (cond (late τ (x.age + 1) (job_after run f.finishes x.job)) Missed (Next then)) Impossible) e

  -- a tick is possible exactly if the generator can decide so
  pub tick_can : is_impossible (tick_of τ run x f) ≡ false → T (can τ run x f)
  tick_can e = ⊎_elim (λ t. t) (λ t. let q = sym (ap is_impossible (by_can false (T_false _ t))) ∙ e in absurd (subst T q tt)) (decide (can τ run x f))

  pub tick_possible : T (can τ run x f) → is_impossible (tick_of τ run x f) ≡ false
  tick_possible t = ap is_impossible (by_can true (T_true _ t)) ∙ judged (late τ (x.age + 1) (job_after run f.finishes x.job))
    where
      judged : (b : Bool) → is_impossible (cond b Missed (Next then)) ≡ false
      judged true = refl
      judged false = refl

  -- one that is no miss leads to that state
  pub tick_next : is_impossible (tick_of τ run x f) ≡ false → is_missed (tick_of τ run x f) ≡ false → tick_of τ run x f ≡ Next then
  tick_next e m = let q = by_can true (T_true _ (tick_can e)) in q ∙ go (late τ (x.age + 1) (job_after run f.finishes x.job)) (sym (ap is_missed q) ∙ m)
    where
      go : (b : Bool) → is_missed (cond b Missed (Next then)) ≡ false → cond b Missed (Next then) ≡ Next then
      go true m = absurd (subst T m tt)
      go false m = refl

-- arrived stays finished plus replaced plus the job in hand
sum_kept : (τ : Task) (run finishes arrives : Bool) (age : ℕ) (job : Job) (a p r : ℕ) → T (can_finish τ run job finishes) → a ≡ p + r + one (in_hand job)
    → a + one arrives ≡ p + one finishes + (r + one (arrives && (in_hand job && not finishes))) + one (in_hand (arrived arrives age (job_after run finishes job)).job)
sum_kept τ false true arrives age job a p r t e = absurd t
sum_kept τ false false true age Empty a p r t e = omega arith
sum_kept τ false false true age (InHand g) a p r t e = omega arith
sum_kept τ false false false age Empty a p r t e = omega arith
sum_kept τ false false false age (InHand g) a p r t e = omega arith
sum_kept τ true finishes arrives age Empty a p r t e = absurd t
sum_kept τ true true true age (InHand g) a p r t e = omega arith
sum_kept τ true true false age (InHand g) a p r t e = omega arith
sum_kept τ true false true age (InHand g) a p r t e = omega arith
sum_kept τ true false false age (InHand g) a p r t e = omega arith

-- a place that fits, a tick later
pub fit_tick : (τ : Task) → ValidTask τ → (run : Bool) (x : TaskState) (f : Flags) (ticks : ℕ) (n : Counts) → Fit τ ticks x n
    → is_impossible (tick_of τ run x f) ≡ false → is_missed (tick_of τ run x f) ≡ false
    → Fit τ (ticks + 1) (state_after x (tick_of τ run x f)) (counts_after x n f)
fit_tick τ v run x f ticks n w i m =
    let q = tick_next τ run x f i m in
    let c = possible τ run x f (tick_can τ run x f i) in
    subst (λ (t : Ticked). Fit τ (ticks + 1) (state_after x t) (counts_after x n f)) (sym q) (record {
      range = subst (λ (t : Ticked). T (ranged τ t)) q (tick_range τ v run x f);
      sum = sum_kept τ run f.finishes f.arrives x.age x.job n.arrived n.finished n.replaced c.finish w.sum;
      some = omega (arith, w.some);
      few = omega (arith, w.few, one_le f.arrives);
    })
