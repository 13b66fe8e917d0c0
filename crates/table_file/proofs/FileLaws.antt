-- The bytes of a header, place by place. Assumes nothing.
use mathlib.Core.Path.{◌≡◌, refl, sym, ap, ◌∙◌}
use mathlib.Core.Logic.{⊎_elim}
use mathlib.Core.List.{List, [], ◌∷◌, ◌++◌}
use Prim.Native.Nat.{ℕ, zero, suc, ◌+◌, ◌-◌, ◌*◌, ◌/◌, ◌%◌, ◌^◌, ◌≤◌, ◌<◌}
use native.Mathlib.Nat.{eq-or-lt_of_le, le_of_suc-le-suc, not-suc-le-zero, div-div-eq-div-mul, div-one}
use native.Mathlib.Omega.{arith}
use lib.ListN.{length, get_or, length-append, get_or-append}
use lib.Pow.{pow-add}
use lib.Seq.{get_or-append-add}
use Rattle.std.specs.Int.{to_le_bytes, w16, w32}
use Rattle.tasks.specs.declared.sets.Task.{Task}
use Rattle.tasks.specs.declared.sets.Set.{Set}
use Rattle.tasks.specs.Sets.{task_at, states_of}
use Rattle.table_file.specs.Files.{low_first, mark, version, task_bytes, tasks_bytes, header, header_length}

-- a place in the second of two lists
pub at_right : (p q : List ℕ) (n i : ℕ) → length p ≡ n → n ≤ i → get_or (p ++ q) i 0 ≡ get_or q (i - n) 0
at_right p q n i e h =
    let k : i ≡ length p + (i - n) = omega arith in
    ap (λ (j : ℕ). get_or (p ++ q) j 0) k ∙ get_or-append-add p q (i - n) 0

-- byte k of a number, low byte first
pub low_at : (n x k : ℕ) → k < n → get_or (low_first n x) k 0 ≡ x / 2 ^ (8 * k) % 256
unfolding low_first
low_at zero x k h = absurd (not-suc-le-zero h)
low_at (suc n) x zero h = ap (λ (y : ℕ). y % 256) (sym (div-one x))
low_at (suc n) x (suc k) h =
    let e : 8 * suc k ≡ 8 + 8 * k = omega arith in
    low_at n (x / 256) k (omega arith)
    ∙ ap (λ (y : ℕ). y % 256) (div-div-eq-div-mul x 256 (2 ^ (8 * k)) ∙ ap (λ (y : ℕ). x / y) (sym (ap (λ (j : ℕ). 2 ^ j) e ∙ pow-add 2 8 (8 * k))))

pub low_length : (n x : ℕ) → length (low_first n x) ≡ n
unfolding low_first
low_length zero x = refl
low_length (suc n) x = ap suc (low_length n (x / 256))

-- the library's bytes of a number of 32 bits
pub low_four : (x : ℕ) → to_le_bytes w32 x ≡ low_first 4 x
unfolding low_first
low_four x = simp div-div-eq-div-mul

-- the six bytes of a task
pub six_bytes : (τ : Task) (r g : List ℕ) → r ≡ to_le_bytes w16 τ.runs → g ≡ to_le_bytes w16 τ.gaps
    → τ.kind ∷ τ.deadline ∷ get_or r 0 0 ∷ get_or r 1 0 ∷ get_or g 0 0 ∷ get_or g 1 0 ∷ [] ≡ task_bytes τ
unfolding task_bytes low_first
six_bytes τ r g e f = rw (e, f) refl

module _ (τ : Task) (k : ℕ) where
  lists : List ℕ
  lists = low_first 2 τ.runs ++ low_first 2 τ.gaps

  pub task_kind : k ≡ 0 → τ.kind ≡ get_or (task_bytes τ) k 0
  unfolding task_bytes
  task_kind e = sym (ap (λ (j : ℕ). get_or (task_bytes τ) j 0) e)

  pub task_deadline : k ≡ 1 → τ.deadline ≡ get_or (task_bytes τ) k 0
  unfolding task_bytes
  task_deadline e = sym (ap (λ (j : ℕ). get_or (task_bytes τ) j 0) e)

  pub task_runs : 2 ≤ k → k < 4 → get_or (task_bytes τ) k 0 ≡ τ.runs / 2 ^ (8 * (k - 2)) % 256
  unfolding task_bytes lists
  task_runs l h =
      at_right (τ.kind ∷ τ.deadline ∷ []) lists 2 k refl l
      ∙ get_or-append (low_first 2 τ.runs) (low_first 2 τ.gaps) 0 (k - 2) (omega (arith, low_length 2 τ.runs))
      ∙ low_at 2 τ.runs (k - 2) (omega arith)

  pub task_gaps : 4 ≤ k → k < 6 → get_or (task_bytes τ) k 0 ≡ τ.gaps / 2 ^ (8 * (k - 4)) % 256
  unfolding task_bytes lists
  task_gaps l h =
      let e : k - 2 - 2 ≡ k - 4 = omega arith in
      at_right (τ.kind ∷ τ.deadline ∷ []) lists 2 k refl (omega arith)
      ∙ at_right (low_first 2 τ.runs) (low_first 2 τ.gaps) 2 (k - 2) (low_length 2 τ.runs) (omega arith)
      ∙ ap (λ (j : ℕ). get_or (low_first 2 τ.gaps) j 0) e ∙ low_at 2 τ.gaps (k - 4) (omega arith)

pub task_length : (τ : Task) → length (task_bytes τ) ≡ 6
unfolding task_bytes low_first
task_length τ = refl

pub tasks_length : (s : Set) (m : ℕ) → length (tasks_bytes s m) ≡ 6 * m
unfolding tasks_bytes
tasks_length s zero = refl
tasks_length s (suc m) = length-append (tasks_bytes s m) (task_bytes (task_at s m)) ∙ omega (arith, tasks_length s m, task_length (task_at s m))

-- byte k of task j + 1, of the first m tasks
pub tasks_at : (s : Set) (m j k : ℕ) → j < m → k < 6 → get_or (tasks_bytes s m) (6 * j + k) 0 ≡ get_or (task_bytes (task_at s j)) k 0
unfolding tasks_bytes
tasks_at s zero j k h l = absurd (not-suc-le-zero h)
tasks_at s (suc m) j k h l = ⊎_elim last (λ g. earlier g (tasks_at s m j k g l)) (eq-or-lt_of_le (le_of_suc-le-suc h))
  where
    earlier : j < m → get_or (tasks_bytes s m) (6 * j + k) 0 ≡ get_or (task_bytes (task_at s j)) k 0 → get_or (tasks_bytes s m ++ task_bytes (task_at s m)) (6 * j + k) 0 ≡ get_or (task_bytes (task_at s j)) k 0
    earlier g r = get_or-append (tasks_bytes s m) (task_bytes (task_at s m)) 0 (6 * j + k) (omega (arith, tasks_length s m)) ∙ r

    last : j ≡ m → get_or (tasks_bytes s m ++ task_bytes (task_at s m)) (6 * j + k) 0 ≡ get_or (task_bytes (task_at s j)) k 0
    last e =
        let a : 6 * j + k - 6 * m ≡ k = omega arith in
        at_right (tasks_bytes s m) (task_bytes (task_at s m)) (6 * m) (6 * j + k) (tasks_length s m) (omega arith)
        ∙ ap (λ (i : ℕ). get_or (task_bytes (task_at s m)) i 0) a ∙ ap (λ (i : ℕ). get_or (task_bytes (task_at s i)) k 0) (sym e)

-- a header up to its name, its count and its tasks
abbrev to_name : Set → List ℕ
to_name s = mark ++ version ++ s.name

abbrev to_count : Set → List ℕ
to_count s = to_name s ++ (s.count ∷ [])

abbrev to_tasks : Set → List ℕ
to_tasks s = to_count s ++ tasks_bytes s s.count

-- a header, for a name of 16 bytes
module _ (s : Set) (name : length s.name ≡ 16) where
  -- how long its beginnings are
  name_length : length (to_name s) ≡ 21
  name_length = length-append (mark ++ version) s.name ∙ omega arith

  count_length : length (to_count s) ≡ 22
  count_length = length-append (to_name s) (s.count ∷ []) ∙ omega (arith, name_length)

  to_length : length (to_tasks s) ≡ 22 + 6 * s.count
  to_length = length-append (to_count s) (tasks_bytes s s.count) ∙ omega (arith, count_length, tasks_length s s.count)

  pub header_length_lem : length (header s) ≡ header_length s
  unfolding header
  header_length_lem = length-append (to_tasks s) (low_first 4 (states_of s)) ∙ omega (arith, to_length, low_length 4 (states_of s))

  -- its bytes
  before_states : (i : ℕ) → i < 22 + 6 * s.count → get_or (header s) i 0 ≡ get_or (to_tasks s) i 0
  unfolding header
  before_states i h = get_or-append (to_tasks s) (low_first 4 (states_of s)) 0 i (omega (arith, to_length))

  before_tasks : (i : ℕ) → i < 22 → get_or (header s) i 0 ≡ get_or (to_count s) i 0
  before_tasks i h = before_states i (omega arith) ∙ get_or-append (to_count s) (tasks_bytes s s.count) 0 i (omega (arith, count_length))

  before_count : (i : ℕ) → i < 21 → get_or (header s) i 0 ≡ get_or (to_name s) i 0
  before_count i h = before_tasks i (omega arith) ∙ get_or-append (to_name s) (s.count ∷ []) 0 i (omega (arith, name_length))

  pub fixed_at : (i : ℕ) → i < 5 → get_or (header s) i 0 ≡ get_or (mark ++ version) i 0
  fixed_at i h = before_count i (omega arith) ∙ get_or-append (mark ++ version) s.name 0 i h

  pub name_at : (i : ℕ) → 5 ≤ i → i < 21 → get_or (header s) i 0 ≡ get_or s.name (i - 5) 0
  name_at i l h = before_count i h ∙ at_right (mark ++ version) s.name 5 i refl l

  pub count_at : get_or (header s) 21 0 ≡ s.count
  count_at = before_tasks 21 (omega arith) ∙ at_right (to_name s) (s.count ∷ []) 21 21 name_length (omega arith)

  pub task_at_lem : (j k : ℕ) → j < s.count → k < 6 → get_or (header s) (22 + (6 * j + k)) 0 ≡ get_or (task_bytes (task_at s j)) k 0
  task_at_lem j k h l =
      let e : 22 + (6 * j + k) - 22 ≡ 6 * j + k = omega arith in
      before_states (22 + (6 * j + k)) (omega arith)
      ∙ at_right (to_count s) (tasks_bytes s s.count) 22 (22 + (6 * j + k)) count_length (omega arith)
      ∙ ap (λ (i : ℕ). get_or (tasks_bytes s s.count) i 0) e ∙ tasks_at s s.count j k h l

  pub states_at : (i : ℕ) → 22 + 6 * s.count ≤ i → get_or (header s) i 0 ≡ get_or (low_first 4 (states_of s)) (i - (22 + 6 * s.count)) 0
  unfolding header
  states_at i l = at_right (to_tasks s) (low_first 4 (states_of s)) (22 + 6 * s.count) i to_length l
