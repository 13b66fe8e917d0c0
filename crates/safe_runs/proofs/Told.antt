-- What an outcome of the game tells of each task, and the report that says so. Assumes nothing.
use mathlib.Core.Path.{◌≡◌, refl, sym, ap, ap₂, subst, ◌∙◌}
use mathlib.Core.Logic.{⊎_elim}
use mathlib.Core.Bool.{Bool, true, false, not, ◌&&◌, ◌||◌, and-false}
use mathlib.Core.List.Memᴰ
use mathlib.Core.List.{List, [], ◌∷◌, ◌++◌}
use Prim.Native.Nat.{ℕ, zero, suc, ◌+◌, ◌*◌, ◌/◌, ◌%◌, ◌^◌, ◌<◌}
use native.Mathlib.Nat.{eq-or-lt_of_le, le_of_suc-le-suc, div-add-mod', div-eq_of_lt}
use native.Mathlib.Numerals.{add-one}
use native.Mathlib.Omega.{arith}
use lib.Dec.{T, eqb, ltb, eqb→eq, ltb→lt}
use lib.ListN.{length, get_or, length-append, get_or-append}
use lib.Seq.{ext_get_or, get_or_at}
use borrow.Author.Tests.{eq-eqb, ne_eqb}
use Rattle.arena.specs.Tests.{◌∈◌, any_below}
use Rattle.arena.specs.Arena.{out}
use Rattle.arena.specs.Arena as arena
use Rattle.arena.proofs.Tests.{nor, and_left, T_true, T_false, not_not, decide}
use Rattle.tasks.specs.declared.sets.Set.{Set}
use Rattle.tasks.specs.Sets.{task_at, states_to}
use Rattle.game.specs.declared.states.TaskState.{TaskState}
use Rattle.game.specs.States.{state_at, task_state_at}
use Rattle.game.specs.declared.ticks.Flags.{Flags}
use Rattle.game.specs.declared.ticks.Ticked.{Ticked}
use Rattle.game.specs.Ticks.{flagged, can_finish, can, tick_of}
use Rattle.game.specs.Game.{Seen, flags, moves_of, beside, outcomes_to}
use Rattle.game.proofs.ListTests.{those_at, map_at, gather_at}
use Rattle.game.proofs.Sound.{possible}
use Rattle.shield.specs.Entries.{names, marks}
use Rattle.shield.proofs.EntryLaws.{marks_lt, names_marks, marks_names, marks_cong}
use Rattle.guard.specs.declared.reports.Outcome.{Outcome}
use Rattle.guard.specs.Runs.{legal_for}
use Rattle.guard.specs.Report.{flags_at, seen_to, tick_at, is_impossible, strays, impossible}
use Rattle.safe_runs.proofs.Named.{next_of, next_same, next_to}
use Rattle.safe_runs.proofs.TickSums.{tick_possible}

-- no flags
abbrev pub no_flags : Flags
no_flags = flagged false false

-- what a report says of the awaited choice c
abbrev pub said : ℕ → Bool → ℕ → Outcome
said c finished arrivals = record { choice = c; finished = finished; arrivals = arrivals }

-- THE REPORT BY WHAT IS SEEN: whether the run job finished, and the arrivals as bits
abbrev pub finished_in : Seen → ℕ → Bool
finished_in v zero = false
finished_in v (suc k) = (get_or v k no_flags).finishes

abbrev pub arrivals_in : Seen → ℕ → ℕ
arrivals_in v n = marks n (λ j. (get_or v j no_flags).arrives)

module _ (s : Set) (i c : ℕ) where
  -- the tick of task j + 1 at an index, by what is seen
  abbrev tick_in : Seen → ℕ → Ticked
  tick_in v j = tick_of (task_at s j) (eqb c (suc j)) (task_state_at s i j) (get_or v j no_flags)

  -- an outcome of the first k tasks: its flags, each possible, and what they come to
  pub record Told (k : ℕ) (o : arena.Outcome Seen) : Type 0 where
    pub size : length o.seen ≡ k
    pub can : (j : ℕ) → j < k → T (can (task_at s j) (eqb c (suc j)) (task_state_at s i j) (get_or o.seen j no_flags))
    pub next : o.next ≡ next_of s (tick_in o.seen) k

  pub told : (k : ℕ) (o : arena.Outcome Seen) → o ∈ outcomes_to s i c k → Told k o
  unfolding outcomes_to
  told zero o m = subst (λ (o : arena.Outcome Seen). Told zero o) (sym (Memᴰ.eq_of_singleton m)) (record { size = refl; can = λ j h. let z : ⊥ = omega arith in absurd z; next = refl })
  told (suc k) o m =
      let g = gather_at _ (moves_of (task_at s k) (eqb c (suc k)) (task_state_at s i k)) o m in
      let b = map_at _ (outcomes_to s i c k) o g.2 in
      subst (λ (o : arena.Outcome Seen). Told (suc k) o) (sym b.2) (grown g.0 (those_at (can (task_at s k) (eqb c (suc k)) (task_state_at s i k)) flags g.0 g.1) b.0 (told k b.0 b.1))
    where
      grown : (f : Flags) → T (can (task_at s k) (eqb c (suc k)) (task_state_at s i k) f) → (o : arena.Outcome Seen) → Told k o
          → Told (suc k) (out (o.seen ++ (f ∷ [])) (beside (states_to s k) (task_at s k) (tick_of (task_at s k) (eqb c (suc k)) (task_state_at s i k) f) o.next))
      grown f t o w =
          let at : (j : ℕ) → j < k → get_or (o.seen ++ (f ∷ [])) j no_flags ≡ get_or o.seen j no_flags = λ j h. get_or-append o.seen (f ∷ []) no_flags j (omega (arith, w.size)) in
          let top : get_or (o.seen ++ (f ∷ [])) k no_flags ≡ f = get_or_at o.seen f [] no_flags k w.size in
          record {
            size = length-append o.seen (f ∷ []) ∙ ap (λ (n : ℕ). n + 1) w.size ∙ add-one k;
            can = λ j h. ⊎_elim
                (λ e. subst (λ (j : ℕ). T (can (task_at s j) (eqb c (suc j)) (task_state_at s i j) (get_or (o.seen ++ (f ∷ [])) j no_flags))) (sym e) (subst (λ (f : Flags). T (can (task_at s k) (eqb c (suc k)) (task_state_at s i k) f)) (sym top) t))
                (λ l. subst (λ (f : Flags). T (can (task_at s j) (eqb c (suc j)) (task_state_at s i j) f)) (sym (at j l)) (w.can j l))
                (eq-or-lt_of_le (le_of_suc-le-suc h));
            next = ap₂ (λ (f : Flags) (n : arena.Next). beside (states_to s k) (task_at s k) (tick_of (task_at s k) (eqb c (suc k)) (task_state_at s i k) f) n) (sym top)
                (w.next ∙ next_same s _ _ k (λ j l. ap (tick_of (task_at s j) (eqb c (suc j)) (task_state_at s i j)) (sym (at j l))));
          }

-- what is seen of an outcome, flag by flag
seen_size : (o : Outcome) (n : ℕ) → length (seen_to o n) ≡ n
unfolding seen_to
seen_size o zero = refl
seen_size o (suc n) = length-append (seen_to o n) (flags_at o n ∷ []) ∙ ap (λ (k : ℕ). k + 1) (seen_size o n) ∙ add-one n

pub seen_at : (o : Outcome) (n j : ℕ) → j < n → get_or (seen_to o n) j no_flags ≡ flags_at o j
unfolding seen_to
seen_at o zero j h = let z : ⊥ = omega arith in absurd z
seen_at o (suc n) j h =
    ⊎_elim (λ e. subst (λ (k : ℕ). get_or (seen_to o n ++ (flags_at o n ∷ [])) k no_flags ≡ flags_at o k) (sym e) (get_or_at (seen_to o n) (flags_at o n) [] no_flags n (seen_size o n)))
    (λ l. get_or-append (seen_to o n) (flags_at o n ∷ []) no_flags j (omega (arith, seen_size o n)) ∙ seen_at o n j l)
    (eq-or-lt_of_le (le_of_suc-le-suc h))

neither : (a b : Bool) → a ≡ false → b ≡ false → T (not (a || b))
neither a b x y = subst (λ a. T (not (a || b))) (sym x) (subst (λ b. T (not b)) (sym y) tt)

-- a test that fails at every number below n passes at none
any_none : (n : ℕ) (f : ℕ → Bool) → ((j : ℕ) → j < n → f j ≡ false) → any_below n f ≡ false
any_none zero f h = refl
any_none (suc n) f h = ap₂ ◌||◌ (h n (omega arith)) (any_none n f (λ j l. h j (omega arith)))

-- A REPORT THAT SAYS WHAT IS SEEN IN AN OUTCOME
module _ (s : Set) (xs : List TaskState) (i : ℕ) (same : (j : ℕ) → j < s.count → task_state_at s i j ≡ state_at xs j)
    (o : Outcome) (a : arena.Outcome Seen) (d : Told s i o.choice s.count a)
    (flag : (j : ℕ) → j < s.count → flags_at o j ≡ get_or a.seen j no_flags) where
  -- names an outcome, if it is not stray
  pub says_named : T (not (strays s o)) → T (not (impossible s xs o))
  unfolding impossible tick_at
  says_named t = neither (strays s o) _ (T_false (strays s o) t) (any_none s.count _ possible)
    where
      possible : (j : ℕ) → j < s.count → is_impossible (tick_of (task_at s j) (eqb o.choice (suc j)) (state_at xs j) (flags_at o j)) ≡ false
      possible j h =
          tick_possible _ _ _ _
          (subst (λ (x : TaskState). T (can (task_at s j) (eqb o.choice (suc j)) x (flags_at o j))) (same j h)
          (subst (λ (f : Flags). T (can (task_at s j) (eqb o.choice (suc j)) (task_state_at s i j) f)) (sym (flag j h)) (d.can j h)))

  -- and names that one
  pub says_out : out (seen_to o s.count) (next_to s xs o s.count) ≡ a
  unfolding tick_at
  says_out = ap₂ out seen next
    where
      seen : seen_to o s.count ≡ a.seen
      seen =
          ext_get_or no_flags (seen_to o s.count) a.seen (seen_size o s.count ∙ sym d.size)
          (λ j h. let l : j < s.count = omega (arith, seen_size o s.count) in seen_at o s.count j l ∙ flag j l)

      next : next_to s xs o s.count ≡ a.next
      next =
          next_same s (tick_at s xs o) (tick_in s i o.choice a.seen) s.count (λ j h. ap₂ (tick_of (task_at s j) (eqb o.choice (suc j))) (sym (same j h)) (flag j h))
          ∙ sym d.next

none_idle : (v : Seen) (c : ℕ) → (finished_in v c && eqb c 0) ≡ false
none_idle v zero = refl
none_idle v (suc k) = ap (λ b. finished_in v (suc k) && b) (ne_eqb (suc k) 0 (λ e. omega arith)) ∙ and-false (finished_in v (suc k))

-- THE REPORT BY WHAT IS SEEN is not stray
pub told_straight : (s : Set) (v : Seen) (c : ℕ) → T (not (strays s (said c (finished_in v c) (arrivals_in v s.count))))
unfolding strays
told_straight s v c =
    neither (finished_in v c && eqb c 0) _ (none_idle v c) (ap not (eq-eqb _ 0 (div-eq_of_lt (marks_lt s.count (λ j. (get_or v j no_flags).arrives)))))

-- and its flags are those that were seen
pub told_flags : (s : Set) (i c n : ℕ) (o : arena.Outcome Seen) → Told s i c n o → (j : ℕ) → j < n
    → flagged (eqb c (suc j) && finished_in o.seen c) (names (arrivals_in o.seen n) j) ≡ get_or o.seen j no_flags
told_flags s i c n o w j h =
    ap₂ flagged (⊎_elim run idle (decide (eqb c (suc j)))) (names_marks n (λ j. (get_or o.seen j no_flags).arrives) j h)
  where
    run : T (eqb c (suc j)) → (eqb c (suc j) && finished_in o.seen c) ≡ (get_or o.seen j no_flags).finishes
    run t = ap₂ (λ (b : Bool) (c : ℕ). b && finished_in o.seen c) (T_true (eqb c (suc j)) t) (eqb→eq c (suc j) t)

    idle : T (not (eqb c (suc j))) → (eqb c (suc j) && finished_in o.seen c) ≡ (get_or o.seen j no_flags).finishes
    idle t =
        let f = get_or o.seen j no_flags in
        let z = T_false (eqb c (suc j)) t in
        let p = (possible (task_at s j) (eqb c (suc j)) (task_state_at s i j) f (w.can j h)).finish in
        ap (λ b. b && finished_in o.seen c) z ∙ sym (T_false f.finishes (subst (λ (b : Bool). T (can_finish (task_at s j) b (task_state_at s i j).job f.finishes)) z p))

-- an arrival byte without bits above n is its first n bits
bits_low : (a n : ℕ) → T (eqb (a / 2 ^ n) 0) → a ≡ marks n (names a)
bits_low a n t =
    sym (div-add-mod' a (2 ^ n)) ∙ ap (λ (z : ℕ). z * 2 ^ n + a % 2 ^ n) (eqb→eq (a / 2 ^ n) 0 t) ∙ zeroed (a % 2 ^ n) (2 ^ n) ∙ sym (marks_names n a)
  where
    zeroed : (m k : ℕ) → 0 * k + m ≡ m
    zeroed m k = omega arith

-- whether the run job finished is told by the flags
same_finished : (s : Set) (xs : List TaskState) (c : ℕ) (f g : Bool) → T (legal_for s xs c) → T (not (f && eqb c 0)) → T (not (g && eqb c 0))
    → ((j : ℕ) → j < s.count → (eqb c (suc j) && f) ≡ (eqb c (suc j) && g)) → f ≡ g
unfolding legal_for
same_finished s xs zero true g l a b h = absurd a
same_finished s xs zero false true l a b h = absurd b
same_finished s xs zero false false l a b h = refl
same_finished s xs (suc k) f g l a b h =
    let z = eq-eqb (suc k) (suc k) refl in
    sym (ap (λ b. b && f) z) ∙ h k (ltb→lt k s.count (and_left (ltb k s.count) _ l)) ∙ ap (λ b. b && g) z

-- TWO REPORTS of a legal choice, neither of them stray, are one if they say the same of every task
pub one_said : (s : Set) (xs : List TaskState) (c : ℕ) → T (legal_for s xs c) → (f g : Bool) (a b : ℕ) → T (not (strays s (said c f a))) → T (not (strays s (said c g b)))
    → ((j : ℕ) → j < s.count → flags_at (said c f a) j ≡ flags_at (said c g b) j) → (f ≡ g) × (a ≡ b)
unfolding strays
one_said s xs c l f g a b x y flag =
    let n = s.count in
    let p = nor (f && eqb c 0) (not (eqb (a / 2 ^ n) 0)) x in
    let q = nor (g && eqb c 0) (not (eqb (b / 2 ^ n) 0)) y in (
      same_finished s xs c f g l p.0 q.0 (λ j h. ap (λ (f : Flags). f.finishes) (flag j h)),
      bits_low a n (not_not (eqb (a / 2 ^ n) 0) p.1) ∙ marks_cong n (names a) (names b) (λ j h. ap (λ (f : Flags). f.arrives) (flag j h)) ∙ sym (bits_low b n (not_not (eqb (b / 2 ^ n) 0) q.1)),
    )
