-- Local numbers and indices: in range, and there and back. Assumes nothing.
use mathlib.Core.Path.{◌≡◌, refl, sym, ap, ap₂, subst, ◌∙◌}
use mathlib.Core.Logic.{⊎_elim}
use mathlib.Core.Bool.{Bool, true, false, not, cond}
use mathlib.Core.List.{List}
use Prim.Native.Nat.{ℕ, zero, suc, ◌+◌, ◌*◌, ◌/◌, ◌%◌, ◌^◌, ◌≤◌, ◌<◌}
use native.Mathlib.Nat.{div-lt_iff_lt-mul, div-add-mod', mod-lt, mod-eq_of_lt, mul-pos, mul_assoc, mul_comm, mul-le-mul, pow-succ', le_refl, mod-one, div-div-eq-div-mul, eq-or-lt_of_le, le_of_suc-le-suc, mul-add-div_right, mul-add-mod_self_right, one-mul}
use native.Mathlib.Numerals.{add-one}
use native.Mathlib.Omega.{arith}
use lib.Arith.{digits_lt, digits_div, digits_mod, mod-mul}
use lib.Dec.{T, ltb, ltb→lt, lt→ltb, nltb→le}
use lib.ListN.{length, get_or, set}
use lib.Seq.{get_or-set_same, get_or-set_other}
use borrow.Author.Count.{below_more}
use borrow.Author.Tests.{lt-ltb, le-ltb}
use Rattle.arena.proofs.Tests.{and_left, and_right, and_by, decide}
use Rattle.tasks.specs.declared.sets.Task.{Task}
use Rattle.tasks.specs.declared.sets.Set.{Set}
use Rattle.tasks.specs.Sets.{cmax, amax, task_at, locals_of, states_to, states_of, Passed}
use Rattle.tasks.proofs.ListLaws.{longest_le, longest_pos}
use Rattle.tasks.proofs.SetLaws.{states_step, bound_top}
use Rattle.tasks.specs.Valid.{ValidTask, Valid}
use Rattle.tasks.proofs.Valid.{passed_valid}
use Rattle.game.specs.declared.states.Job.{Job}
use Rattle.game.specs.declared.states.Job.TheVariants.{Empty, InHand}
use Rattle.game.specs.declared.states.TaskState.{TaskState}
use Rattle.game.specs.States.{slots, given_in, local_of, job_of, state_of, given_fits, in_range, state_at, index_to, index_of, local_at, task_state_at}

module _ (τ : Task) where
  pub slots_pos : 0 < slots τ
  slots_pos = omega arith

  given_lt : (job : Job) → T (given_fits τ job) → given_in τ job < slots τ
  given_lt Empty t = omega arith
  given_lt (InHand g) t = omega (arith, ltb→lt g (cmax τ) t)

  -- a job's ticks given, and back
  pub given_job : (g : ℕ) → g < slots τ → given_in τ (job_of τ g) ≡ g
  given_job g h = ⊎_elim (λ t. ap (given_in τ) (job_at t)) (λ t. ap (given_in τ) (none_at t) ∙ omega (arith, nltb→le g (cmax τ) t)) (decide (ltb g (cmax τ)))
    where
      job_at : T (ltb g (cmax τ)) → job_of τ g ≡ InHand g
      job_at t = ap (λ b. cond b (InHand g) Empty) (lt-ltb g (cmax τ) (ltb→lt g (cmax τ) t))

      none_at : T (not (ltb g (cmax τ))) → job_of τ g ≡ Empty
      none_at t = ap (λ b. cond b (InHand g) Empty) (le-ltb g (cmax τ) (nltb→le g (cmax τ) t))

  job_given : (job : Job) → T (given_fits τ job) → job_of τ (given_in τ job) ≡ job
  job_given Empty t = ap (λ b. cond b (InHand (cmax τ)) Empty) (le-ltb (cmax τ) (cmax τ) (omega arith))
  job_given (InHand g) t = ap (λ b. cond b (InHand g) Empty) (lt-ltb g (cmax τ) (ltb→lt g (cmax τ) t))

  job_fits : (g : ℕ) → T (given_fits τ (job_of τ g))
  job_fits g = fits (ltb g (cmax τ)) refl
    where
      fits : (b : Bool) → ltb g (cmax τ) ≡ b → T (given_fits τ (cond b (InHand g) Empty))
      fits true e = subst T (sym e) tt
      fits false e = tt

  -- a state in range has a local number, a local number a state in range, and each leads back to the other
  pub local_lt : (x : TaskState) → T (in_range τ x) → local_of τ x < locals_of τ
  unfolding in_range local_of locals_of
  local_lt x t =
      digits_lt (ltb→lt x.age (amax τ) (and_left (ltb x.age (amax τ)) _ t)) (given_lt x.job (and_right (ltb x.age (amax τ)) _ t))

  -- the age at a local number
  pub age_lt : (l : ℕ) → l < locals_of τ → l / slots τ < amax τ
  unfolding locals_of
  age_lt l h = (div-lt_iff_lt-mul slots_pos).1 h

  pub state_range : (l : ℕ) → l < locals_of τ → T (in_range τ (state_of τ l))
  unfolding in_range state_of
  state_range l h =
      and_by (ltb (l / slots τ) (amax τ)) _ (lt→ltb (l / slots τ) (amax τ) (age_lt l h)) (job_fits (l % slots τ))

  pub local_state : (l : ℕ) → local_of τ (state_of τ l) ≡ l
  unfolding local_of state_of
  local_state l = ap (λ (g : ℕ). l / slots τ * slots τ + g) (given_job (l % slots τ) (mod-lt l slots_pos)) ∙ div-add-mod' l (slots τ)

  pub state_local : (x : TaskState) → T (in_range τ x) → state_of τ (local_of τ x) ≡ x
  unfolding in_range local_of state_of
  state_local x t =
      let f = and_right (ltb x.age (amax τ)) _ t in
      let g = given_lt x.job f in
      ap₂ (λ (a : ℕ) (j : Job). record { age = a; job = j }) (digits_div x.age g) (ap (job_of τ) (digits_mod x.age g) ∙ job_given x.job f)

  pub locals_le : locals_of τ ≤ 272
  unfolding locals_of
  locals_le =
      let h : cmax τ + 1 ≤ 17 = omega (arith, longest_le τ.runs) in
      mul-le-mul (longest_le τ.gaps) h

  pub locals_pos : ValidTask τ → 0 < locals_of τ
  unfolding locals_of
  locals_pos v = mul-pos (longest_pos τ.gaps v.gaps) slots_pos

-- a byte of age and a byte of ticks given
pub local_small : (a m g : ℕ) → a < 256 → m ≤ 16 → g ≤ 255 → a * (m + 1) + g ≤ 4590
local_small a m g p q r =
    let h : a ≤ 255 = omega arith in
    let l : m + 1 ≤ 17 = omega arith in
    omega (arith, mul-le-mul h l)

-- an index grows with one task more, and that of seven fits 64 bits
pub index_bound : (k at w l : ℕ) → at ≤ 17 * 272 ^ k → w ≤ 272 ^ k → l ≤ 4590 → l * w + at ≤ 17 * 272 ^ (k + 1)
index_bound k at w l p q r =
    let e : 272 ^ (k + 1) ≡ 272 * 272 ^ k = ap (λ (n : ℕ). 272 ^ n) (add-one k) ∙ pow-succ' 272 k in
    omega (arith, mul-le-mul r q)

pub index_top : (k at w l : ℕ) → k < 7 → at ≤ 17 * 272 ^ k → w ≤ 272 ^ k → l ≤ 4590 → l * w + at < 2 ^ 64
index_top k at w l h p q r = omega (arith, index_bound k at w l p q r, bound_top (k + 1) (272 ^ (k + 1)) (le_refl _) (omega arith))

-- a digit below one that stands higher does not see it
pub digit_skip : (l a q m p : ℕ) → 0 < p → (l * (q * (m * p)) + a) / p % m ≡ a / p % m
digit_skip l a q m p h =
    ap (λ (n : ℕ). (n + a) / p % m) (ap (λ (n : ℕ). l * n) (sym (mul_assoc q m p)) ∙ sym (mul_assoc l (q * m) p))
    ∙ ap (λ (n : ℕ). n % m) (mul-add-div_right h (l * (q * m)) a)
    ∙ ap (λ (n : ℕ). (n + a / p) % m) (sym (mul_assoc l q m)) ∙ mul-add-mod_self_right (l * q) m (a / p)

module _ (s : Set) where
  -- the weight of a task's digit is a multiple of those below it
  weights : (j k : ℕ) → j < k → (q : ℕ) × (states_to s k ≡ q * (locals_of (task_at s j) * states_to s j))
  unfolding states_to
  weights j zero h = let z : ⊥ = omega arith in absurd z
  weights j (suc k) h = ⊎_elim here (λ l. above (weights j k l)) (eq-or-lt_of_le (le_of_suc-le-suc h))
    where
      here : j ≡ k → (q : ℕ) × (locals_of (task_at s k) * states_to s k ≡ q * (locals_of (task_at s j) * states_to s j))
      here e = (1, sym (one-mul _ ∙ ap (λ (n : ℕ). locals_of (task_at s n) * states_to s n) e))

      above : (q : ℕ) × (states_to s k ≡ q * (locals_of (task_at s j) * states_to s j)) → (q : ℕ) × (locals_of (task_at s k) * states_to s k ≡ q * (locals_of (task_at s j) * states_to s j))
      above w = (locals_of (task_at s k) * w.0, ap (λ (n : ℕ). locals_of (task_at s k) * n) w.1 ∙ sym (mul_assoc (locals_of (task_at s k)) w.0 _))

  module _ (v : Valid s) where
    pub states_pos : (k : ℕ) → k ≤ s.count → 0 < states_to s k
    unfolding states_to
    states_pos zero h = omega arith
    states_pos (suc k) h = mul-pos (locals_pos (task_at s k) (v.tasks k h)) (states_pos k (omega arith))

    -- a task's local number at an index is one of its local numbers, and its state there is in range
    pub local_at_lt : (i k : ℕ) → k < s.count → local_at s i k < locals_of (task_at s k)
    unfolding local_at
    local_at_lt i k h = mod-lt (i / states_to s k) (locals_pos (task_at s k) (v.tasks k h))

    pub range_at : (i k : ℕ) → k < s.count → T (in_range (task_at s k) (task_state_at s i k))
    range_at i k h = state_range (task_at s k) (local_at s i k) (local_at_lt i k h)

  -- the states xs of the first k tasks are in range
  abbrev pub Ranged : List TaskState → ℕ → Type 0
  Ranged xs k = (j : ℕ) → j < k → T (in_range (task_at s j) (state_at xs j))

  pub index_lt : (xs : List TaskState) (k : ℕ) → Ranged xs k → index_to s xs k < states_to s k
  unfolding index_to states_to
  index_lt xs zero r = omega arith
  index_lt xs (suc k) r =
      let l = local_lt (task_at s k) (state_at xs k) (r k (omega arith)) in
      let i = index_lt xs k (λ j h. r j (omega arith)) in
      omega (arith, digits_lt l i, digits_lt i l)

  -- from a whole state to its index and back
  pub index_local : Valid s → (xs : List TaskState) (k : ℕ) → k ≤ s.count → Ranged xs k
      → (j : ℕ) → j < k → local_at s (index_to s xs k) j ≡ local_of (task_at s j) (state_at xs j)
  unfolding index_to local_at
  index_local v xs zero b r j h = let z : ⊥ = omega arith in absurd z
  index_local v xs (suc k) b r j h = ⊎_elim top (λ l. below l (index_local v xs k (omega arith) (λ j h. r j (omega arith)) j l)) (eq-or-lt_of_le (le_of_suc-le-suc h))
    where
      low : index_to s xs k < states_to s k
      low = index_lt xs k (λ j h. r j (omega arith))

      here : (local_of (task_at s k) (state_at xs k) * states_to s k + index_to s xs k) / states_to s k % locals_of (task_at s k) ≡ local_of (task_at s k) (state_at xs k)
      here =
          ap (λ (n : ℕ). n % locals_of (task_at s k)) (digits_div (local_of (task_at s k) (state_at xs k)) low)
          ∙ mod-eq_of_lt (local_lt (task_at s k) (state_at xs k) (r k (omega arith)))

      top : j ≡ k → (local_of (task_at s k) (state_at xs k) * states_to s k + index_to s xs k) / states_to s j % locals_of (task_at s j) ≡ local_of (task_at s j) (state_at xs j)
      top e = subst (λ (n : ℕ). (local_of (task_at s k) (state_at xs k) * states_to s k + index_to s xs k) / states_to s n % locals_of (task_at s n) ≡ local_of (task_at s n) (state_at xs n)) (sym e) here

      below : j < k → index_to s xs k / states_to s j % locals_of (task_at s j) ≡ local_of (task_at s j) (state_at xs j)
          → (local_of (task_at s k) (state_at xs k) * states_to s k + index_to s xs k) / states_to s j % locals_of (task_at s j) ≡ local_of (task_at s j) (state_at xs j)
      below l i = let w = weights j k l in
          ap (λ (n : ℕ). (local_of (task_at s k) (state_at xs k) * n + index_to s xs k) / states_to s j % locals_of (task_at s j)) w.1
          ∙ digit_skip (local_of (task_at s k) (state_at xs k)) (index_to s xs k) w.0 (locals_of (task_at s j)) (states_to s j) (states_pos v j (omega arith)) ∙ i

  -- from an index to its whole state and back
  pub index_back : Valid s → (i : ℕ) (xs : List TaskState) (k : ℕ) → k ≤ s.count
      → ((j : ℕ) → j < k → state_at xs j ≡ task_state_at s i j) → index_to s xs k ≡ i % states_to s k
  unfolding index_to states_to local_at
  index_back v i xs zero b e = sym (mod-one i)
  index_back v i xs (suc k) b e =
      let τ = task_at s k in
      ap₂ (λ (l n : ℕ). l * states_to s k + n) (ap (local_of τ) (e k (omega arith)) ∙ local_state τ (local_at s i k)) (index_back v i xs k (omega arith) (λ j h. e j (omega arith)))
      ∙ sym (mod-mul i (locals_pos τ (v.tasks k b)) (states_pos v k (omega arith)))

  -- one task more of a whole state, and one less of an index
  pub index_step : (xs : List TaskState) (k at w l : ℕ) → at ≡ index_to s xs k → w ≡ states_to s k → l ≡ local_of (task_at s k) (state_at xs k)
      → l * w + at ≡ index_to s xs (k + 1)
  unfolding index_to
  index_step xs k at w l p q r = simp (p, q, r) (ap (index_to s xs) (sym (add-one k)))

  module _ (i k n rest : ℕ) (e : rest ≡ i / states_to s k) (m : n ≡ locals_of (task_at s k)) where
    pub rest_step : rest / n ≡ i / states_to s (k + 1)
    rest_step =
        ap₂ (λ (a b : ℕ). a / b) e m ∙ div-div-eq-div-mul i (states_to s k) (locals_of (task_at s k))
        ∙ ap (λ (a : ℕ). i / a) (mul_comm (states_to s k) (locals_of (task_at s k)) ∙ states_step s k (states_to s k) (locals_of (task_at s k)) refl refl)

    pub locals_step : (d : List ℕ) → k < length d → ((j : ℕ) → j < k → get_or d j 0 ≡ local_at s i j)
        → (j : ℕ) → j < k + 1 → get_or (set d k (rest % n)) j 0 ≡ local_at s i j
    unfolding local_at
    locals_step d h all =
        below_more (λ j. get_or (set d k (rest % n)) j 0 ≡ local_at s i j) k
        (λ j l. get_or-set_other d k j (rest % n) 0 (λ q. omega arith) ∙ all j l)
        (get_or-set_same d k (rest % n) 0 h ∙ ap₂ (λ (a b : ℕ). a % b) e m)

-- at most seven tasks
pub count_le : (s : Set) → Passed s → s.count ≤ 7
count_le s p = (passed_valid s p).count.1

-- a set that passes has states, and 60,000 at most
pub states_some : (s : Set) → Passed s → 0 < states_of s
states_some s p = states_pos s (passed_valid s p) s.count (omega arith)

pub states_le : (s : Set) → Passed s → states_of s ≤ 60000
states_le s p = (passed_valid s p).states

-- a task of a set that passes has local numbers
pub locals_some : (s : Set) → Passed s → (k : ℕ) → k < s.count → 0 < locals_of (task_at s k)
locals_some s p k h = locals_pos (task_at s k) ((passed_valid s p).tasks k h)

-- and at every index
pub local_below : (s : Set) → Passed s → (i k : ℕ) → k < s.count → local_at s i k < locals_of (task_at s k)
local_below s p i k h = local_at_lt s (passed_valid s p) i k h

-- the two, of whole states
pub state_index : (s : Set) → Passed s → (xs : List TaskState) → Ranged s xs s.count
    → (j : ℕ) → j < s.count → task_state_at s (index_of s xs) j ≡ state_at xs j
state_index s p xs r j h =
    ap (state_of (task_at s j)) (index_local s (passed_valid s p) xs s.count (omega arith) r j h) ∙ state_local (task_at s j) (state_at xs j) (r j h)

pub index_state : (s : Set) → Passed s → (i : ℕ) → i < states_of s → (xs : List TaskState)
    → ((j : ℕ) → j < s.count → state_at xs j ≡ task_state_at s i j) → index_of s xs ≡ i
index_state s p i b xs e = index_back s (passed_valid s p) i xs s.count (omega arith) e ∙ mod-eq_of_lt b
