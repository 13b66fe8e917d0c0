-- Laws of a report: what the ticks worked out say of those of the outcome. Assumes nothing.
use Rattle.std.proofs.Common.{◌≡◌, ℕ, zero, suc, ◌+◌, ◌<◌, ◌≤◌, Bool, true, false, cond, ◌||◌, ltb, List, Option, Some, None, get_or, take, refl, sym, ap, ◌∙◌, ap₂, add-one, arith, le-ltb, lt-ltb}
use Rattle.std.specs.List.{list_any, position, position_from}
use Rattle.std.proofs.lemmas.Iterator.Adapters.{position_from-zero}
use Rattle.std.proofs.lemmas.List.Folds.{list_any_more}
use Rattle.arena.specs.Tests.{any_below, first}
use Rattle.tasks.specs.declared.sets.Set.{Set}
use Rattle.tasks.specs.Sets.{Passed}
use Rattle.game.proofs.StateLaws.{count_le}
use Rattle.game.specs.declared.states.TaskState.{TaskState}
use Rattle.game.specs.declared.ticks.Ticked.{Ticked}
use Rattle.guard.specs.declared.reports.Outcome.{Outcome}
use Rattle.guard.specs.Runs.{seven}
use Rattle.guard.specs.Report.{tick_at, is_impossible, is_missed, first_missed}
use Rattle.guard.proofs.RunLaws.{seven_at}

or_swap : (a b : Bool) → (a || b) ≡ (b || a)
or_swap true true = refl
or_swap true false = refl
or_swap false true = refl
or_swap false false = refl

-- the first of n numbers from k on that passes, where there is one
found : (ℕ → Bool) → ℕ → ℕ → Option ℕ
found f zero k = None
found f (suc n) k = cond (f k) (Some k) (found f n (suc k))

module _ {A : Type 0} (f : ℕ → A) (g : A → Bool) where
  seven_any : (n : ℕ) → n ≤ 7 → list_any g (take n (seven f)) ≡ any_below n (λ k. g (f k))
  seven_any zero h = refl
  seven_any (suc n) h =
      ap (λ (m : ℕ). list_any g (take m (seven f))) (sym (add-one n))
      ∙ list_any_more g (seven f) n (f 0) h
      ∙ or_swap (list_any g (take n (seven f))) (g (get_or (seven f) n (f 0)))
      ∙ ap₂ ◌||◌ (ap g (seven_at (f 0) f n (omega arith))) (seven_any n (omega arith))

  seven_found : (n : ℕ) → n ≤ 7 → position_from g 0 (take n (seven f)) ≡ found (λ k. g (f k)) n 0
  unfolding found
  seven_found zero h = refl
  seven_found (suc zero) h = refl
  seven_found (suc (suc zero)) h = refl
  seven_found (suc (suc (suc zero))) h = refl
  seven_found (suc (suc (suc (suc zero)))) h = refl
  seven_found (suc (suc (suc (suc (suc zero))))) h = refl
  seven_found (suc (suc (suc (suc (suc (suc zero)))))) h = refl
  seven_found (suc (suc (suc (suc (suc (suc (suc zero))))))) h = refl
  seven_found (suc (suc (suc (suc (suc (suc (suc (suc n)))))))) h = let z : ⊥ = omega arith in absurd z

found_first : (f : ℕ → Bool) (n k m : ℕ) → k + n ≡ m → found f n k ≡ cond (ltb (first f n k) m) (Some (first f n k)) None
unfolding found
found_first f zero k m e = let z : m ≤ k = omega arith in ap (λ b. cond b (Some k) None) (sym (le-ltb k m z))
found_first f (suc n) k m e = go (f k) (found_first f n (suc k) m (omega arith))
  where
    go : (b : Bool) → found f n (suc k) ≡ cond (ltb (first f n (suc k)) m) (Some (first f n (suc k))) None
        → cond b (Some k) (found f n (suc k)) ≡ cond (ltb (cond b k (first f n (suc k))) m) (Some (cond b k (first f n (suc k)))) None
    go true q = let z : k < m = omega arith in ap (λ b. cond b (Some k) None) (sym (lt-ltb k m z))
    go false q = q

pub any_by : (s : Set) (xs : List TaskState) (o : Outcome) (ts : List Ticked) → Passed s → ts ≡ seven (tick_at s xs o)
    → list_any is_impossible (take s.count ts) ≡ any_below s.count (λ k. is_impossible (tick_at s xs o k))
any_by s xs o ts p e =
    ap (λ (ts : List Ticked). list_any is_impossible (take s.count ts)) e ∙ seven_any (tick_at s xs o) is_impossible s.count (count_le s p)

pub missed_by : (s : Set) (xs : List TaskState) (o : Outcome) (ts : List Ticked) → Passed s → ts ≡ seven (tick_at s xs o)
    → position is_missed (take s.count ts) ≡ first_missed s xs o
missed_by s xs o ts p e =
    ap (λ (ts : List Ticked). position is_missed (take s.count ts)) e
    ∙ position_from-zero is_missed _
    ∙ seven_found (tick_at s xs o) is_missed s.count (count_le s p)
    ∙ found_first (λ k. is_missed (tick_at s xs o k)) s.count 0 s.count (let z : 0 + s.count ≡ s.count = omega arith in z)
