-- The outcome that a report names is one of the game's. Assumes nothing.
use mathlib.Core.Path.{◌≡◌, refl, sym, ap, ap₂, subst, ◌∙◌}
use mathlib.Core.Logic.{⊎_elim}
use mathlib.Core.Bool.{Bool, true, false}
use mathlib.Core.List.Memᴰ
use mathlib.Core.List.{List, [], ◌∷◌, ◌++◌, map}
use Prim.Native.Nat.{ℕ, zero, suc, ◌+◌, ◌*◌, ◌<◌}
use native.Mathlib.Nat.{eq-or-lt_of_le, le_of_suc-le-suc}
use native.Mathlib.Omega.{arith}
use lib.Dec.{T, eqb}
use Rattle.arena.specs.Tests.{◌∈◌}
use Rattle.arena.specs.Arena.{Next, miss, go, out}
use Rattle.tasks.specs.declared.sets.Task.{Task}
use Rattle.tasks.specs.declared.sets.Set.{Set}
use Rattle.tasks.specs.Sets.{task_at, states_to}
use Rattle.game.specs.declared.states.TaskState.{TaskState}
use Rattle.game.specs.declared.ticks.Ticked.{Ticked}
use Rattle.game.specs.States.{local_of, state_at, index_to, task_state_at}
use Rattle.game.specs.Ticks.{can, tick_of}
use Rattle.game.specs.Game.{gather, flags, moves_of, beside, outcomes_to}
use Rattle.game.proofs.ListTests.{those_by, map_in, gather_in}
use Rattle.game.proofs.Sound.{every_flag}
use Rattle.guard.specs.declared.reports.Outcome as declared
use Rattle.guard.specs.Report.{flags_at, seen_to, tick_at, is_impossible, is_missed, state_after}
use Rattle.safe_runs.proofs.TickSums.{tick_can}

-- what the ticks t of the first k tasks come to
abbrev pub next_of : Set → (ℕ → Ticked) → ℕ → Next
next_of s t zero = go 0
next_of s t (suc k) = beside (states_to s k) (task_at s k) (t k) (next_of s t k)

pub next_same : (s : Set) (t u : ℕ → Ticked) (k : ℕ) → ((j : ℕ) → j < k → t j ≡ u j) → next_of s t k ≡ next_of s u k
next_same s t u zero h = refl
next_same s t u (suc k) h = ap₂ (beside (states_to s k) (task_at s k)) (h k (omega arith)) (next_same s t u k (λ j l. h j (omega arith)))

-- one tick more: no miss, to the state that it leads to
beside_next : (w : ℕ) (τ : Task) (x y : TaskState) (t : Ticked) (n : ℕ) → is_impossible t ≡ false → is_missed t ≡ false → y ≡ state_after x t
    → beside w τ t (go n) ≡ go (local_of τ y * w + n)
beside_next w τ x y Ticked.Impossible n i m e = absurd (subst T i tt)
beside_next w τ x y Ticked.Missed n i m e = absurd (subst T m tt)
beside_next w τ x y (Ticked.Next z) n i m e = ap (λ (y : TaskState). go (local_of τ y * w + n)) (sym e)

-- a miss of any task is a miss
beside_miss : (w : ℕ) (τ : Task) (t : Ticked) → beside w τ t miss ≡ miss
beside_miss w τ Ticked.Impossible = refl
beside_miss w τ Ticked.Missed = refl
beside_miss w τ (Ticked.Next y) = refl

beside_missed : (w : ℕ) (τ : Task) (t : Ticked) (n : Next) → is_missed t ≡ true → beside w τ t n ≡ miss
beside_missed w τ Ticked.Impossible n m = refl
beside_missed w τ Ticked.Missed n m = refl
beside_missed w τ (Ticked.Next y) n m = absurd (subst T (sym m) tt)

module _ (s : Set) (xs : List TaskState) (o : declared.Outcome) where
  -- what the first k tasks' ticks in an outcome come to
  abbrev pub next_to : ℕ → Next
  next_to = next_of s (tick_at s xs o)

  -- no tick of the first k tasks passes a test
  abbrev pub None : (Ticked → Bool) → ℕ → Type 0
  None test k = (j : ℕ) → j < k → test (tick_at s xs o j) ≡ false

  -- THE OUTCOME IS ONE OF THE GAME'S
  pub named_in : (i : ℕ) (k : ℕ) → ((j : ℕ) → j < k → task_state_at s i j ≡ state_at xs j) → None is_impossible k
      → out (seen_to o k) (next_to k) ∈ outcomes_to s i o.choice k
  unfolding outcomes_to seen_to tick_at
  named_in i zero e h = Memᴰ.head refl
  named_in i (suc k) e h =
      let τ = task_at s k in
      let run = eqb o.choice (suc k) in
      let f = flags_at o k in
      subst (λ (x : TaskState). out (seen_to o k ++ (f ∷ [])) (beside (states_to s k) τ (tick_of τ run (state_at xs k) f) (next_to k))
      ∈ gather (λ f. map (λ q. out (q.seen ++ (f ∷ [])) (beside (states_to s k) τ (tick_of τ run x f) q.next)) (outcomes_to s i o.choice k)) (moves_of τ run x))
      (sym (e k (omega arith)))
      (gather_in _ (moves_of τ run (state_at xs k)) f _
      (those_by (can τ run (state_at xs k)) flags f (every_flag f.finishes f.arrives) (tick_can τ run (state_at xs k) f (h k (omega arith))))
      (map_in _ (outcomes_to s i o.choice k) _ (named_in i k (λ j l. e j (omega arith)) (λ j l. h j (omega arith)))))

  -- WITH NO MISS it is the index of the states that the ticks lead to
  pub next_go : (ys : List TaskState) (k : ℕ) → ((j : ℕ) → j < k → state_at ys j ≡ state_after (state_at xs j) (tick_at s xs o j)) → None is_impossible k → None is_missed k
      → next_to k ≡ go (index_to s ys k)
  unfolding index_to
  next_go ys zero e i m = refl
  next_go ys (suc k) e i m =
      ap (beside (states_to s k) (task_at s k) (tick_at s xs o k)) (next_go ys k (λ j l. e j (omega arith)) (λ j l. i j (omega arith)) (λ j l. m j (omega arith)))
      ∙ beside_next (states_to s k) (task_at s k) (state_at xs k) (state_at ys k) (tick_at s xs o k) (index_to s ys k) (i k (omega arith)) (m k (omega arith)) (e k (omega arith))

  -- WITH A MISS of any task it is a miss
  pub next_miss : (j k : ℕ) → j < k → is_missed (tick_at s xs o j) ≡ true → next_to k ≡ miss
  next_miss j zero h m = let z : ⊥ = omega arith in absurd z
  next_miss j (suc k) h m = ⊎_elim here (λ l. above (next_miss j k l m)) (eq-or-lt_of_le (le_of_suc-le-suc h))
    where
      here : j ≡ k → beside (states_to s k) (task_at s k) (tick_at s xs o k) (next_to k) ≡ miss
      here e = beside_missed (states_to s k) (task_at s k) (tick_at s xs o k) (next_to k) (subst (λ (n : ℕ). is_missed (tick_at s xs o n) ≡ true) e m)

      above : next_to k ≡ miss → beside (states_to s k) (task_at s k) (tick_at s xs o k) (next_to k) ≡ miss
      above q = ap (beside (states_to s k) (task_at s k) (tick_at s xs o k)) q ∙ beside_miss (states_to s k) (task_at s k) (tick_at s xs o k)
