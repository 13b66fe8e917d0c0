-- Laws of the seven places, and of a run that fits. Assumes nothing.
use Rattle.std.proofs.Common.{◌≡◌, ℕ, zero, suc, ◌+◌, ◌<◌, ◌≤◌, Bool, true, false, cond, not, ◌&&◌, T, eqb, ltb, leb, List, [], ◌∷◌, Option, Some, None, get_or, sym, refl, ap, ◌∙◌, subst, ap₂, ⊎_elim, arith, eqb→eq, ltb→lt, leb→le, le-ltb, lt-ltb, eq-eqb, le-leb}
use Rattle.std.specs.Fn.{Called, Mut}
use Rattle.std.specs.Iterator.{YieldsThen}
use Rattle.std.specs.List.{FoldsTo, list_all, range_with_len}
use Rattle.std.specs.Option.{MatchOption}
use Rattle.std.specs.declared.ops.Range.{Range}
use Rattle.std.proofs.iter.Yields.{nat_range_steps}
use Rattle.std.proofs.lemmas.Iterator.{YieldsList-from_range}
use Rattle.std.proofs.lemmas.Iterator.Search.{all_from_yields_List}
use Rattle.arena.specs.Tests.{all_below, one}
use Rattle.arena.proofs.Tests.{and_left, and_right, and_by, lt_or_le, all_below_at, all_below_by, all_below_cong}
use Rattle.tasks.specs.declared.sets.Task.{Task}
use Rattle.tasks.specs.declared.sets.Set.{Set}
use Rattle.tasks.specs.Sets.{task_at, states_of, Passed}
use Rattle.tasks.proofs.SetLaws.{within_both}
use Rattle.tasks.proofs.Valid.{passed_valid}
use Rattle.game.specs.declared.states.TaskState.{TaskState}
use Rattle.game.specs.States.{in_range, state_at, index_of}
use Rattle.game.specs.Ticks.{in_hand}
use Rattle.game.proofs.StateLaws.{count_le, index_lt}
use Rattle.guard.specs.declared.runs.Counts.{Counts}
use Rattle.guard.specs.declared.runs.Run.{Run}
use Rattle.guard.specs.Runs.{tick_limit, seven, counts_at, sum_holds, task_fits, place_empty, place_fits, awaited_fits, fits, Room, Small}

-- seven values that are equal one by one
pub all_seven : {A : Type 0} {a b c d e f g a' b' c' d' e' f' g' : A} → a ≡ a' → b ≡ b' → c ≡ c' → d ≡ d' → e ≡ e' → f ≡ f' → g ≡ g'
    → ◌≡◌ {A = List A} (a ∷ b ∷ c ∷ d ∷ e ∷ f ∷ g ∷ []) (a' ∷ b' ∷ c' ∷ d' ∷ e' ∷ f' ∷ g' ∷ [])
all_seven p q r s t u v = cc

-- the value at a place of the seven
pub seven_at : {A : Type 0} (d : A) (f : ℕ → A) (i : ℕ) → i < 7 → get_or (seven f) i d ≡ f i
seven_at d f zero h = refl
seven_at d f (suc zero) h = refl
seven_at d f (suc (suc zero)) h = refl
seven_at d f (suc (suc (suc zero))) h = refl
seven_at d f (suc (suc (suc (suc zero)))) h = refl
seven_at d f (suc (suc (suc (suc (suc zero))))) h = refl
seven_at d f (suc (suc (suc (suc (suc (suc zero)))))) h = refl
seven_at d f (suc (suc (suc (suc (suc (suc (suc i))))))) h = let z : ⊥ = omega arith in absurd z

-- what `all` answers over the numbers below n
and_swap : (a b c : Bool) → (a && (b && c)) ≡ (b && (a && c))
and_swap true b c = refl
and_swap false true c = refl
and_swap false false c = refl

all_below_front : (n : ℕ) (f : ℕ → Bool) → all_below (suc n) f ≡ (f 0 && all_below n (λ k. f (suc k)))
all_below_front zero f = refl
all_below_front (suc n) f = ap (λ b. f (suc n) && b) (all_below_front n f) ∙ and_swap (f (suc n)) (f 0) _

all_below_from : (n a : ℕ) (f : ℕ → Bool) → list_all f (range_with_len a n) ≡ all_below n (λ k. f (a + k))
all_below_from zero a f = refl
all_below_from (suc n) a f =
    let z : a ≡ a + 0 = omega arith in
    ap₂ ◌&&◌ (ap f z) (all_below_from n (a + 1) f ∙ all_below_cong n _ _ (λ i l. let e : a + 1 + i ≡ a + suc i = omega arith in ap f e))
    ∙ sym (all_below_front n (λ k. f (a + k)))

pub all_ran : {F : Type 0} {g : Mut F (ℕ × Unit {0}) Bool} (n : ℕ) (f : ℕ → Bool) (u : Range ℕ) (c : F) (r : Bool)
    → (xs : List ℕ) × (o : Option ℕ) × (j : F) × YieldsThen nat_range_steps (record { start = 0; end = n }) xs o u × FoldsTo (λ p x q. Called g p (x, tt) true q) c xs j × MatchOption o (r ≡ true) (λ x. (r ≡ false) × ((h : F) × Called g j (x, tt) false h))
    → ((x : ℕ) (b : Bool) (q : F) → Called g c (x, tt) b q → (q ≡ c) × (b ≡ f x)) → r ≡ all_below n f
all_ran n f u c r ran each = all_from_yields_List f u c r ran (YieldsList-from_range 0 n n refl (omega arith)) each ∙ all_below_from n 0 f ∙ all_below_cong n _ _ (λ i l. let e : 0 + i ≡ i = omega arith in ap f e)

-- a task's place that fits
pub record Fit (τ : Task) (ticks : ℕ) (x : TaskState) (n : Counts) : Type 0 where
  pub range : T (in_range τ x)
  pub sum : n.arrived ≡ n.finished + n.replaced + one (in_hand x.job)
  pub some : 1 ≤ n.arrived
  pub few : n.arrived ≤ ticks + 1

-- a run that fits
pub record Fits (s : Set) (r : Run) : Type 0 where
  pub ticks : r.ticks ≤ tick_limit
  pub awaited : T (awaited_fits s r r.awaited)
  pub tasks : (k : ℕ) → k < s.count → Fit (task_at s k) r.ticks (state_at r.states k) (counts_at r.counts k)
  pub rest : (k : ℕ) → s.count ≤ k → k < 7 → T (place_empty (state_at r.states k) (counts_at r.counts k))

module _ (τ : Task) (ticks : ℕ) (x : TaskState) (n : Counts) where
  fit_at : T (task_fits τ ticks x n) → Fit τ ticks x n
  unfolding task_fits
  fit_at t =
      let a = and_right (in_range τ x) _ t in
      let b = within_both 1 (ticks + 1) n.arrived (and_right (sum_holds x n) _ a) in
      record {
        range = and_left (in_range τ x) _ t;
        sum = eqb→eq n.arrived _ (and_left (sum_holds x n) _ a);
        some = b.0;
        few = b.1;
      }

  fit_by : Fit τ ticks x n → T (task_fits τ ticks x n)
  unfolding task_fits
  fit_by w =
      let e = le-leb 1 n.arrived w.some in
      let l = le-leb n.arrived (ticks + 1) w.few in
      and_by (in_range τ x) _ w.range
      (and_by (sum_holds x n) _ (subst T (sym (eq-eqb _ _ w.sum)) tt)
      (and_by (leb 1 n.arrived) _ (subst T (sym e) tt) (subst T (sym l) tt)))

module _ (s : Set) (r : Run) where
  place_task : (k : ℕ) → k < s.count → place_fits s r k ≡ task_fits (task_at s k) r.ticks (state_at r.states k) (counts_at r.counts k)
  unfolding place_fits
  place_task k h =
      ap (λ b. cond b (task_fits (task_at s k) r.ticks (state_at r.states k) (counts_at r.counts k)) (place_empty (state_at r.states k) (counts_at r.counts k))) (lt-ltb k s.count h)

  place_rest : (k : ℕ) → s.count ≤ k → place_fits s r k ≡ place_empty (state_at r.states k) (counts_at r.counts k)
  unfolding place_fits
  place_rest k h =
      ap (λ b. cond b (task_fits (task_at s k) r.ticks (state_at r.states k) (counts_at r.counts k)) (place_empty (state_at r.states k) (counts_at r.counts k))) (le-ltb k s.count h)

  pub fits_at : s.count ≤ 7 → T (fits s r) → Fits s r
  unfolding fits
  fits_at c t =
      let a = and_right (leb r.ticks tick_limit) _ t in
      let p = all_below_at 7 (place_fits s r) (and_right (awaited_fits s r r.awaited) _ a) in
      record {
        ticks = leb→le r.ticks tick_limit (and_left (leb r.ticks tick_limit) _ t);
        awaited = and_left (awaited_fits s r r.awaited) _ a;
        tasks = λ k h. fit_at _ _ _ _ (subst T (place_task k h) (p k (omega arith)));
        rest = λ k h l. subst T (place_rest k h) (p k l);
      }

  pub fits_by : Fits s r → T (fits s r)
  unfolding fits
  fits_by w =
      and_by (leb r.ticks tick_limit) _ (subst T (sym (le-leb r.ticks tick_limit w.ticks)) tt)
      (and_by (awaited_fits s r r.awaited) _ w.awaited
      (all_below_by 7 (place_fits s r) (λ k l. ⊎_elim (λ h. subst T (sym (place_task k h)) (fit_by _ _ _ _ (w.tasks k h))) (λ h. subst T (sym (place_rest k h)) (w.rest k h l)) (lt_or_le k s.count))))

-- what a run that fits leaves room for
few_awaited : (s : Set) (r : Run) (a : Option ℕ) → T (awaited_fits s r a) → r.substitutions ≤ r.ticks + 1
few_awaited s r None t = omega (arith, leb→le r.substitutions r.ticks t)
few_awaited s r (Some c) t =
    leb→le r.substitutions (r.ticks + 1) (and_left (leb r.substitutions (r.ticks + 1)) _ (and_right _ _ t))

open_awaited : (s : Set) (r : Run) (a : Option ℕ) (c : ℕ) → a ≡ Some c → T (awaited_fits s r a) → r.ticks < tick_limit
open_awaited s r None c e t = let z : ◌≡◌ {A = ℕ} 0 1 = cc in absurd (omega arith)
open_awaited s r (Some d) c e t = ltb→lt r.ticks tick_limit (and_left (ltb r.ticks tick_limit) _ t)

module _ (s : Set) (r : Run) (w : Fits s r) where
  pub few_substitutions : r.substitutions ≤ r.ticks + 1
  few_substitutions = few_awaited s r r.awaited w.awaited

  pub small_substitutions : Room r.substitutions
  small_substitutions = omega (arith, few_substitutions, w.ticks)

  pub open_ticks : (c : ℕ) → r.awaited ≡ Some c → r.ticks < tick_limit
  open_ticks c e = open_awaited s r r.awaited c e w.awaited

  pub index_fits : index_of s r.states < states_of s
  index_fits = index_lt s r.states s.count (λ j h. (w.tasks j h).range)

-- an empty place has no jobs
empty_small : (x : TaskState) (n : Counts) → T (place_empty x n) → Small n
unfolding place_empty
empty_small x n t =
    let a = and_right (not (in_hand x.job)) _ (and_right (eqb x.age 0) _ t) in
    let b = and_right (eqb n.arrived 0) _ a in
    record {
      arrived = omega (arith, eqb→eq n.arrived 0 (and_left (eqb n.arrived 0) _ a));
      finished = omega (arith, eqb→eq n.finished 0 (and_left (eqb n.finished 0) _ b));
      replaced = omega (arith, eqb→eq n.replaced 0 (and_right (eqb n.finished 0) _ b));
    }

pub small_counts : (s : Set) (r : Run) → Fits s r → (k : ℕ) → k < 7 → Small (counts_at r.counts k)
small_counts s r w k l = ⊎_elim (task k) (λ h. empty_small _ _ (w.rest k h l)) (lt_or_le k s.count)
  where
    task : (k : ℕ) → k < s.count → Small (counts_at r.counts k)
    task k h = let p = w.tasks k h in record {
      arrived = omega (arith, p.few, w.ticks);
      finished = omega (arith, p.few, p.sum, w.ticks);
      replaced = omega (arith, p.few, p.sum, w.ticks);
    }

-- the same, of a run that passes the test
module _ (s : Set) (r : Run) (p : Passed s) (e : fits s r ≡ true) where
  w : Fits s r
  w = fits_at s r (count_le s p) (subst T (sym e) tt)

  pub room : Room r.substitutions
  room = small_substitutions s r w

  pub index_small : index_of s r.states < states_of s
  index_small = index_fits s r w

  pub ticks_left : (c : ℕ) → r.awaited ≡ Some c → r.ticks < tick_limit
  ticks_left c a = open_ticks s r w c a

  pub small_at : (k : ℕ) → k < 7 → Small (counts_at r.counts k)
  small_at = small_counts s r w

pub states_small : (s : Set) → Passed s → states_of s ≤ 60000
states_small s p = (passed_valid s p).states
