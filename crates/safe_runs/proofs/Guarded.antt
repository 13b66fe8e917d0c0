-- The guard's choice: the proposal if the entry allows it, and otherwise the allowed task with least D minus age. Assumes nothing.
use mathlib.Core.Path.{◌≡◌, refl, sym, ap, subst, ◌∙◌}
use mathlib.Core.Logic.{◌⊎◌, inl, inr, ⊎_elim}
use mathlib.Core.Bool.{Bool, true, false, not, ◌&&◌, cond}
use mathlib.Core.List.{List}
use Prim.Native.Nat.{ℕ, zero, suc, ◌+◌, ◌≤◌, ◌<◌}
use native.Mathlib.Nat.{eq-or-lt_of_le, le_of_suc-le-suc}
use native.Mathlib.Numerals.{add-one}
use native.Mathlib.Omega.{arith}
use lib.Dec.{T, eqb, ltb, ltb→lt, nltb→le, T_not}
use borrow.Author.Tests.{ne_eqb}
use Rattle.arena.proofs.Tests.{T_true, T_false, decide, and_left, and_right, and_by, imp_at, imp_by, all_below_at, all_below_by, any_below_at}
use Rattle.tasks.specs.declared.sets.Set.{Set}
use Rattle.game.specs.declared.states.TaskState.{TaskState}
use Rattle.shield.specs.Entries.{names}
use Rattle.shield.proofs.EntryLaws.{names_none}
use Rattle.guard.specs.Runs.{legal_for}
use Rattle.guard.specs.Ask.{serves_for, serves, slack, closer, better, substitute_to, choice_for}

module _ (s : Set) (xs : List TaskState) (e : ℕ) where
  -- of the first n tasks, task b + 1 is allowed, has least D minus age of those allowed, and the lowest number on a tie
  pub record Best (n b : ℕ) : Type 0 where
    pub within : b < n
    pub allowed : T (names e (b + 1))
    pub least : (k : ℕ) → k < n → T (names e (k + 1)) → slack s xs b ≤ slack s xs k
    pub lowest : (k : ℕ) → k < n → T (names e (k + 1)) → slack s xs k ≡ slack s xs b → b ≤ k

  -- no task of the first n is allowed
  abbrev pub NoneAllowed : ℕ → Type 0
  NoneAllowed n = (k : ℕ) → k < n → T (not (names e (k + 1)))

  -- the best of the allowed tasks, and idle if none is
  abbrev pub Found : ℕ → ℕ → Type 0
  Found n c = ((c ≡ 0) × NoneAllowed n) ⊎ ((b : ℕ) × (c ≡ b + 1) × Best n b)

  -- a fact of each number below n, and of n
  below : (P : ℕ → Type 0) (n : ℕ) → ((k : ℕ) → k < n → P k) → P n → (k : ℕ) → k < suc n → P k
  below P n h p k l = ⊎_elim (λ q. subst P (sym q) p) (h k) (eq-or-lt_of_le (le_of_suc-le-suc l))

  -- the task n + 1 against none and against the best
  alone : (n : ℕ) → NoneAllowed n → T (names e (n + 1)) → Best (suc n) n
  alone n none t = record {
    within = omega arith;
    allowed = t;
    least = below (λ k. T (names e (k + 1)) → slack s xs n ≤ slack s xs k) n (λ k l a. absurd (T_not (names e (k + 1)) (none k l) a)) (λ _. omega arith);
    lowest = below (λ k. T (names e (k + 1)) → slack s xs k ≡ slack s xs n → n ≤ k) n (λ k l a. absurd (T_not (names e (k + 1)) (none k l) a)) (λ _ _. omega arith);
  }

  sooner : (n b : ℕ) → Best n b → T (names e (n + 1)) → slack s xs n < slack s xs b → Best (suc n) n
  sooner n b w t h = record {
    within = omega arith;
    allowed = t;
    least = below (λ k. T (names e (k + 1)) → slack s xs n ≤ slack s xs k) n (λ k l a. omega (arith, w.least k l a)) (λ _. omega arith);
    lowest = below (λ k. T (names e (k + 1)) → slack s xs k ≡ slack s xs n → n ≤ k) n (λ k l a q. let z : ⊥ = omega (arith, w.least k l a) in absurd z) (λ _ _. omega arith);
  }

  kept : (n b : ℕ) → Best n b → (T (names e (n + 1)) → slack s xs b ≤ slack s xs n) → Best (suc n) b
  kept n b w h = record {
    within = omega (arith, w.within);
    allowed = w.allowed;
    least = below (λ k. T (names e (k + 1)) → slack s xs b ≤ slack s xs k) n w.least h;
    lowest = below (λ k. T (names e (k + 1)) → slack s xs k ≡ slack s xs b → b ≤ k) n w.lowest (λ _ _. omega (arith, w.within));
  }

  -- the substitute is the best of the allowed tasks, and idle if no task is allowed
  pub substitute_best : (n : ℕ) → Found n (substitute_to s xs e n)
  unfolding substitute_to better
  substitute_best zero = inl (refl, λ k l. let z : ⊥ = omega arith in absurd z)
  substitute_best (suc n) = ⊎_elim first more (substitute_best n)
    where
      off : T (not (names e (n + 1))) → better s xs e (substitute_to s xs e n) n ≡ substitute_to s xs e n
      off t = ap (λ b. cond (b && closer s xs (substitute_to s xs e n) n) (n + 1) (substitute_to s xs e n)) (T_false (names e (n + 1)) t)

      on : (b : Bool) → T (names e (n + 1)) → closer s xs (substitute_to s xs e n) n ≡ b → better s xs e (substitute_to s xs e n) n ≡ cond b (n + 1) (substitute_to s xs e n)
      on b t q = ap (λ a. cond (a && closer s xs (substitute_to s xs e n) n) (n + 1) (substitute_to s xs e n)) (T_true (names e (n + 1)) t) ∙ ap (λ b. cond b (n + 1) (substitute_to s xs e n)) q

      first : (substitute_to s xs e n ≡ 0) × NoneAllowed n → Found (suc n) (better s xs e (substitute_to s xs e n) n)
      first w = ⊎_elim
          (λ t. inr (n, on true t (ap (λ (b : ℕ). closer s xs b n) w.0), alone n w.1 t))
          (λ t. inl (off t ∙ w.0, below (λ k. T (not (names e (k + 1)))) n w.1 t))
          (decide (names e (n + 1)))

      more : ((b : ℕ) × (substitute_to s xs e n ≡ b + 1) × Best n b) → Found (suc n) (better s xs e (substitute_to s xs e n) n)
      more w =
          let b = w.0 in
          let c : closer s xs (substitute_to s xs e n) n ≡ ltb (slack s xs n) (slack s xs b) = ap (λ (m : ℕ). closer s xs m n) (w.1 ∙ add-one b) in
          ⊎_elim
          (λ t. ⊎_elim
          (λ h. inr (n, on true t (c ∙ T_true (ltb (slack s xs n) (slack s xs b)) h), sooner n b w.2 t (ltb→lt (slack s xs n) (slack s xs b) h)))
          (λ h. inr (b, on false t (c ∙ T_false (ltb (slack s xs n) (slack s xs b)) h) ∙ w.1, kept n b w.2 (λ _. nltb→le (slack s xs n) (slack s xs b) h)))
          (decide (ltb (slack s xs n) (slack s xs b))))
          (λ t. inr (b, off t ∙ w.1, kept n b w.2 (λ a. absurd (T_not (names e (n + 1)) t a))))
          (decide (names e (n + 1)))

  -- an allowed proposal comes back; any other is substituted
  pub choice_back : (p : ℕ) → T (names e p) → choice_for s xs e p ≡ p
  unfolding choice_for
  choice_back p t = ap (λ b. cond b p (substitute_to s xs e s.count)) (T_true (names e p) t)

  pub choice_other : (p : ℕ) → T (not (names e p)) → Found s.count (choice_for s xs e p)
  unfolding choice_for
  choice_other p t = subst (λ (c : ℕ). Found s.count c) (sym (ap (λ b. cond b p (substitute_to s xs e s.count)) (T_false (names e p) t))) (substitute_best s.count)

  -- an entry that serves names only what is legal
  pub serves_at : T (serves s xs e) → (c : ℕ) → c < 8 → T (names e c) → T (legal_for s xs c)
  unfolding serves
  serves_at t c h n = imp_at (names e c) (legal_for s xs c) (all_below_at 8 (serves_for s xs e) (and_right (not (eqb e 0)) _ t) c h) n

  pub serves_by : (e ≡ 0 → ⊥) → ((c : ℕ) → c < 8 → T (names e c) → T (legal_for s xs c)) → T (serves s xs e)
  unfolding serves
  serves_by q h =
      and_by (not (eqb e 0)) _ (subst (λ b. T (not b)) (sym (ne_eqb e 0 q)) tt)
      (all_below_by 8 (serves_for s xs e) (λ c l. imp_by (names e c) (legal_for s xs c) (h c l)))

  module _ (p : ℕ) (l : p ≤ 7) (v : s.count ≤ 7) (t : T (serves s xs e)) where
    -- the choice is idle or runnable
    pub choice_legal : T (legal_for s xs (choice_for s xs e p))
    unfolding legal_for
    choice_legal = ⊎_elim
        (λ n. subst (λ (c : ℕ). T (legal_for s xs c)) (sym (choice_back p n)) (serves_at t p (omega arith) n))
        (λ n. ⊎_elim
        (λ w. subst (λ (c : ℕ). T (legal_for s xs c)) (sym w.0) tt)
        (λ w. subst (λ (c : ℕ). T (legal_for s xs c)) (sym w.1) (serves_at t (w.0 + 1) (omega (arith, w.2.within)) w.2.allowed))
        (choice_other p n))
        (decide (names e p))

    -- and the entry, a byte, allows it
    pub choice_named : e < 256 → T (names e (choice_for s xs e p)) × (choice_for s xs e p < 8)
    unfolding serves legal_for
    choice_named b = ⊎_elim
        (λ n. at p (choice_back p n) n (omega arith))
        (λ n. ⊎_elim (λ w. at 0 w.0 (idle w.1) (omega arith)) (λ w. at (w.0 + 1) w.1 w.2.allowed (omega (arith, w.2.within))) (choice_other p n))
        (decide (names e p))
      where
        at : (c : ℕ) → choice_for s xs e p ≡ c → T (names e c) → c < 8 → T (names e (choice_for s xs e p)) × (choice_for s xs e p < 8)
        at c q n h = (subst (λ (c : ℕ). T (names e c)) (sym q) n, omega arith)

        task : NoneAllowed s.count → (c : ℕ) → c < 8 → T (names e c) → T (names e 0)
        task none zero h n = n
        task none (suc k) h n =
            absurd (T_not (names e (k + 1)) (none k (ltb→lt k s.count (and_left (ltb k s.count) _ (serves_at t (suc k) h n)))) (subst (λ (m : ℕ). T (names e m)) (sym (add-one k)) n))

        idle : NoneAllowed s.count → T (names e 0)
        idle none = let w = any_below_at 8 (names e) (subst T (names_none e b) (and_left (not (eqb e 0)) _ t)) in task none w.0 w.1 w.2
