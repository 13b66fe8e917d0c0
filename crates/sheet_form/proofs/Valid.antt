-- What a valid set has, as far as a sheet shows it. Assumes nothing.
use mathlib.Core.Path.{◌≡◌, refl, sym, ap, ap₂, ◌∙◌, subst}
use mathlib.Core.Logic.{⊎_elim}
use mathlib.Core.Bool.{Bool, true, false, cond}
use mathlib.Core.List.{List, [], ◌∷◌, ◌++◌}
use Prim.Native.Nat.{ℕ, suc, ◌+◌, ◌-◌, ◌≤◌, ◌<◌}
use native.Mathlib.Nat.{le_refl}
use native.Mathlib.Omega.{arith}
use lib.Dec.{T, eqb, ltb, eqb→eq, ltb→lt}
use lib.ListN.{length, get_or, take, drop, replicate, length-drop, length-replicate, get_or-replicate, take-append-drop, get_or-eq_default}
use lib.Seq.{length-take-le, get_or-take, get_or-drop, ext_get_or}
use Rattle.tasks.specs.declared.sets.Task.{Task}
use Rattle.tasks.specs.declared.sets.Set.{Set}
use Rattle.tasks.specs.Sets.{name_byte, characters, zeros, good_name, no_task, task_at}
use Rattle.arena.proofs.Tests.{and_left, and_right, lt_or_le}
use Rattle.tasks.proofs.SetLaws.{blank_is, characters_le}
use Rattle.tasks.specs.Valid.{ValidTask, Valid}
use Rattle.sheet_form.specs.Form.{Each, NameOk}
use Rattle.sheet_form.specs.Sets.{padded}

-- RECORDS

Each_from : {A : Type 0} (P : A → Type 0) (d : A) (xs : List A) → ((i : ℕ) → i < length xs → P (get_or xs i d)) → Each P xs
Each_from P d [] f = tt
Each_from P d (x ∷ xs) f = (f 0 (omega arith), Each_from P d xs (λ i h. f (suc i) (omega arith)))

-- the first records of a valid set are tasks, and the rest are zeros
module _ (s : Set) (v : Valid s) where
  -- a record that is not there is no task
  pub counted : s.count ≤ length s.tasks
  counted = ⊎_elim (λ h. absurd (none (v.tasks (length s.tasks) h))) (λ h. h) (lt_or_le (length s.tasks) s.count)
    where
      none : ValidTask (task_at s (length s.tasks)) → ⊥
      none t = omega (arith, t.deadline.0, ap (λ (τ : Task). τ.deadline) (get_or-eq_default s.tasks no_task (le_refl (length s.tasks))))

  pub task_count : length (take s.count s.tasks) ≡ s.count
  task_count = length-take-le s.count s.tasks counted

  -- what holds of each task by its number
  pub tasks_each : (P : Task → Type 0) → ((i : ℕ) → i < s.count → P (task_at s i)) → Each P (take s.count s.tasks)
  tasks_each P f =
      Each_from P no_task (take s.count s.tasks)
      (λ i h. let l : i < s.count = omega (arith, task_count) in subst P (sym (get_or-take s.count s.tasks i no_task l)) (f i l))

  pub tasks_ok : Each ValidTask (take s.count s.tasks)
  tasks_ok = tasks_each ValidTask v.tasks

  pub tasks_rest : length s.tasks ≡ 7 → s.tasks ≡ padded 7 no_task (take s.count s.tasks)
  unfolding padded
  tasks_rest l7 =
      let n = s.count in
      let k = 7 - length (take n s.tasks) in
      let e : length (drop n s.tasks) ≡ k = omega (arith, length-drop n s.tasks, task_count) in
      let zero-at : (i : ℕ) → i < length (drop n s.tasks) → get_or (drop n s.tasks) i no_task ≡ get_or (replicate k no_task) i no_task
      = λ i h. get_or-drop n s.tasks i no_task ∙ blank_is (task_at s (n + i)) (v.blanks (n + i) (omega arith) (omega (arith, length-drop n s.tasks))) ∙ sym (get_or-replicate k i no_task no_task (omega arith)) in
      sym (take-append-drop n s.tasks) ∙ ap (λ l. take n s.tasks ++ l) (ext_get_or no_task (drop n s.tasks) (replicate k no_task) (e ∙ sym (length-replicate k no_task)) zero-at)

-- NAMES

pub characters_ok : (n : List ℕ) → Each (λ b. T (name_byte b)) (take (characters n) n)
unfolding characters
characters_ok [] = tt
characters_ok (b ∷ n) = go (name_byte b) refl (characters_ok n)
  where
    go : (c : Bool) → name_byte b ≡ c → Each (λ b. T (name_byte b)) (take (characters n) n) → Each (λ b. T (name_byte b)) (take (cond c (suc (characters n)) 0) (b ∷ n))
    go true e h = (subst T (sym e) tt, h)
    go false e h = tt

zeros_all : (l : List ℕ) → T (zeros l) → l ≡ replicate (length l) 0
unfolding zeros
zeros_all [] t = refl
zeros_all (b ∷ l) t = ap₂ (λ x y. x ∷ y) (eqb→eq b 0 (and_left (eqb b 0) _ t)) (zeros_all l (and_right (eqb b 0) _ t))

-- a good name is its characters, and the rest are zeros
module _ (n : List ℕ) (g : T (good_name n)) (l16 : length n ≡ 16) where
  pub name_ok : NameOk (take (characters n) n)
  unfolding good_name
  name_ok =
      let e : length (take (characters n) n) ≡ characters n = length-take-le (characters n) n (characters_le n) in
      record { bytes = characters_ok n; low = omega (arith, ltb→lt 0 (characters n) (and_left (ltb 0 (characters n)) _ g)); high = omega (arith, characters_le n) }

  pub name_rest : n ≡ padded 16 0 (take (characters n) n)
  unfolding good_name padded
  name_rest =
      let c = characters n in
      let e : length (drop c n) ≡ 16 - length (take c n) = omega (arith, length-drop c n, length-take-le c n (characters_le n)) in
      sym (take-append-drop c n) ∙ ap (λ l. take c n ++ l) (zeros_all (drop c n) (and_right (ltb 0 c) _ g) ∙ ap (λ k. replicate k 0) e)
