-- What is fine at the local numbers of a state is fine in the game. Assumes nothing.
use mathlib.Core.Path.{◌≡◌, refl, sym, ap, subst, ◌∙◌}
use mathlib.Core.Bool.{Bool, true, false, not, ◌&&◌}
use mathlib.Core.List.{List}
use Prim.Native.Nat.{ℕ, zero, suc, ◌+◌, ◌*◌, ◌^◌, ◌≤◌, ◌<◌}
use native.Mathlib.Nat.{zero-div, pow-suc}
use native.Mathlib.Numerals.{add-one}
use native.Mathlib.Omega.{arith}
use lib.Dec.{T, eqb, ltb, eqb→eq}
use lib.ListN.{length, get_or, take}
use lib.Pow.{pow_mono}
use Rattle.std.specs.List.{count_by}
use Rattle.std.proofs.lemmas.List.Sums.{count_by_more_yes, count_by_more_no}
use Rattle.arena.specs.Tests.{one, count}
use Rattle.arena.specs.Arena.{fine}
use Rattle.arena.proofs.Tests.{and_left, and_right}
use Rattle.tasks.specs.declared.sets.Set.{Set}
use Rattle.tasks.specs.Sets.{task_at, locals_of}
use Rattle.game.proofs.StateLaws.{local_below}
use Rattle.game.specs.States.{state_of, task_state_at}
use Rattle.game.specs.Ticks.{in_hand, runnable}
use Rattle.game.specs.Game.{legal_at, arena_of}
use Rattle.game.specs.Walk.{walk}
use Rattle.game.proofs.WalkLaws.{walk_fine}
use Rattle.shield.specs.declared.walks.State.{State}
use Rattle.shield.specs.Entries.{names, marks, entry_at, live}
use Rattle.shield.specs.Shield.{next_entry}
use Rattle.shield.proofs.EntryLaws.{marks_lt, marks_cong}

-- the local numbers of a state are below their tasks' numbers of them
module _ (x : State) where
  pub locals_lt : (k : ℕ) → k < x.v.set.count → get_or x.locals k 0 < locals_of (task_at x.v.set k)
  locals_lt k h = omega (arith, x.by_task k h, local_below x.v.set x.v.passed x.index k h)

  -- and those of its tasks' states
  pub task_state : (k : ℕ) → k < x.v.set.count → state_of (task_at x.v.set k) (get_or x.locals k 0) ≡ task_state_at x.v.set x.index k
  task_state k h = ap (state_of (task_at x.v.set k)) (x.by_task k h)

  -- a legal choice runs a task with its job in hand
  pub legal_hand : (c : ℕ) → T (legal_at x.v.set x.index c) → (j : ℕ) → j < x.v.set.count → T (eqb c (suc j)) → T (in_hand (state_of (task_at x.v.set j) (get_or x.locals j 0)).job)
  unfolding runnable
  legal_hand zero t j h q = absurd (omega (arith, eqb→eq 0 (suc j) q))
  legal_hand (suc k) t j h q =
      let m : k ≡ j = omega (arith, eqb→eq (suc k) (suc j) q) in
      rw (task_state j h) (subst (λ (j : ℕ). T (in_hand (task_state_at x.v.set x.index j).job)) m (and_left (in_hand (task_state_at x.v.set x.index k).job) _ (and_right (ltb k x.v.set.count) _ t)))

  -- and is fine where the walk over all tasks finds no outcome astray
  pub legal_fine : (table : List ℕ) (c : ℕ) → T (legal_at x.v.set x.index c) → walk x.v.set x.locals c (live table) x.v.set.count 0 ≡ fine (arena_of x.v.set) (live table) x.index c
  legal_fine table c t = sym (walk_fine x.v.set x.v.passed (live table) x.index c x.locals x.by_task t)

-- what is left of an entry, choice by choice
pub marks_on : (n : ℕ) (f : ℕ → Bool) → f n ≡ true → marks n f + 2 ^ n ≡ marks (n + 1) f
unfolding marks
marks_on n f e = sym (ap (λ (k : ℕ). marks k f) (add-one n) ∙ ap (λ b. one b * 2 ^ n + marks n f) e ∙ omega arith)

pub marks_off : (n : ℕ) (f : ℕ → Bool) → f n ≡ false → marks n f ≡ marks (n + 1) f
unfolding marks
marks_off n f e = sym (ap (λ (k : ℕ). marks k f) (add-one n) ∙ ap (λ b. one b * 2 ^ n + marks n f) e ∙ omega arith)

pub marks_room : (n : ℕ) (f : ℕ → Bool) → n < 8 → marks n f + 2 ^ n < 256
marks_room n f h =
    let p : 2 ^ suc n ≤ 2 ^ 8 = pow_mono h in
    omega (arith, marks_lt n f, pow-suc 2 n, p)

-- an entry of zero stays zero
marks_none : (n : ℕ) → marks n (λ c. false) ≡ 0
unfolding marks
marks_none zero = refl
marks_none (suc n) = omega (arith, marks_none n)

pub next_none : (s : Set) (table : List ℕ) (i : ℕ) → entry_at table i ≡ 0 → next_entry s table i ≡ 0
unfolding next_entry names
next_none s table i e =
    marks_cong 8 _ (λ c. false) (λ c h. ap (λ (n : ℕ). names n c && fine (arena_of s) (live table) i c) e ∙ simp zero-div) ∙ marks_none 8

-- how many entries are not zero, of the first n
pub count_taken : (table : List ℕ) (n : ℕ) → n ≤ length table → count_by (λ e. not (eqb e 0)) (take n table) ≡ count n (live table)
count_taken table zero h = refl
count_taken table (suc n) h = by (live table n) refl (count_taken table n (omega arith))
  where
    p : ℕ → Bool
    p e = not (eqb e 0)

    by : (b : Bool) → live table n ≡ b → count_by p (take n table) ≡ count n (live table) → count_by p (take (suc n) table) ≡ one (live table n) + count n (live table)
    by true e i = rw (← add-one n) (count_by_more_yes p table n 0 (omega arith) e ∙ omega (arith, i, ap one e))
    by false e i = rw (← add-one n) (count_by_more_no p table n 0 (omega arith) e ∙ omega (arith, i, ap one e))
