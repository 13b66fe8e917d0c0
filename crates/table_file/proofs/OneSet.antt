-- A file opens for one set only, and names that differ are refused where they first differ. Assumes nothing.
use mathlib.Core.Path.{◌≡◌, refl, sym, ap, ◌∙◌}
use mathlib.Core.Logic.{⊎_elim}
use mathlib.Core.List.{List, []}
use Prim.Native.Nat.{ℕ, ◌+◌, ◌-◌, ◌*◌, ◌/◌, ◌%◌, ◌≤◌, ◌<◌}
use native.Mathlib.Omega.{arith}
use lib.ListN.{length, get_or}
use lib.Seq.{ext_get_or}
use Rattle.arena.proofs.Tests.{lt_or_le}
use Rattle.tasks.specs.declared.sets.Task.{Task}
use Rattle.tasks.specs.declared.sets.Set.{Set}
use Rattle.tasks.specs.Refusals.{header_differs}
use Rattle.tasks.specs.declared.refusals.Reason.TheVariants.{HeaderDiffers}
use Rattle.tasks.specs.Sets.{no_task, task_at, Sized, states_of, Passed}
use Rattle.tasks.proofs.SetLaws.{blank_is}
use Rattle.tasks.proofs.Valid.{passed_valid}
use Rattle.table_file.specs.Files.{task_bytes, header, header_length, file_of}
use Rattle.table_file.specs.Open.{present, refuse, open_tested, open_of, said_opened}
use Rattle.table_file.proofs.FileLaws.{fixed_at, name_at, count_at, task_at_lem, task_kind, task_deadline, task_runs, task_gaps}
use Rattle.table_file.proofs.OpenLaws.{open_header}
use Rattle.table_file.proofs.Opening.{Opening, opening, said_opens, none_in, first_in}
use Rattle.table_file.proofs.Trips.{file_length_lem, file_header, Opens}

-- values are equal by their fields
task_eq : (a b : Task) → a.kind ≡ b.kind → a.deadline ≡ b.deadline → a.runs ≡ b.runs → a.gaps ≡ b.gaps → a ≡ b
task_eq a b k d r g = λ i. record { kind = k i; deadline = d i; runs = r i; gaps = g i }

set_eq : (a b : Set) → a.name ≡ b.name → a.count ≡ b.count → a.tasks ≡ b.tasks → a ≡ b
set_eq a b n c t = λ i. record { name = n i; count = c i; tasks = t i }

-- a task by its six bytes
bytes_eq : (a b : Task) → (a.runs < 65536) × (a.gaps < 65536) → (b.runs < 65536) × (b.gaps < 65536)
    → ((k : ℕ) → k < 6 → get_or (task_bytes a) k 0 ≡ get_or (task_bytes b) k 0) → a ≡ b
bytes_eq a b p q e =
    let r0 : a.runs / 1 % 256 ≡ b.runs / 1 % 256 = sym (task_runs a 2 (omega arith) (omega arith)) ∙ e 2 (omega arith) ∙ task_runs b 2 (omega arith) (omega arith) in
    let r1 : a.runs / 256 % 256 ≡ b.runs / 256 % 256 = sym (task_runs a 3 (omega arith) (omega arith)) ∙ e 3 (omega arith) ∙ task_runs b 3 (omega arith) (omega arith) in
    let g0 : a.gaps / 1 % 256 ≡ b.gaps / 1 % 256 = sym (task_gaps a 4 (omega arith) (omega arith)) ∙ e 4 (omega arith) ∙ task_gaps b 4 (omega arith) (omega arith) in
    let g1 : a.gaps / 256 % 256 ≡ b.gaps / 256 % 256 = sym (task_gaps a 5 (omega arith) (omega arith)) ∙ e 5 (omega arith) ∙ task_gaps b 5 (omega arith) (omega arith) in
    task_eq a b (task_kind a 0 refl ∙ e 0 (omega arith) ∙ sym (task_kind b 0 refl)) (task_deadline a 1 refl ∙ e 1 (omega arith) ∙ sym (task_deadline b 1 refl)) (omega arith) (omega arith)

module _ (file : List ℕ) (s u : Set) (m : Sized s) (n : Sized u) (o : Opening s file) (q : Opening u file) where
  count_eq : s.count ≡ u.count
  count_eq = sym (count_at s m.name) ∙ sym (o.same 21 (omega arith)) ∙ q.same 21 (omega arith) ∙ count_at u n.name

  -- so the headers have the same places
  at : (i : ℕ) → i < header_length s → get_or (header s) i 0 ≡ get_or (header u) i 0
  at i h = sym (o.same i h) ∙ q.same i (omega (arith, count_eq))

  name_eq : s.name ≡ u.name
  name_eq = ext_get_or 0 s.name u.name (m.name ∙ sym n.name) (λ i h.
      let k : i + 5 - 5 ≡ i = omega arith in
      ap (λ (j : ℕ). get_or s.name j 0) (sym k) ∙ sym (name_at s m.name (i + 5) (omega arith) (omega (arith, m.name))) ∙ at (i + 5) (omega (arith, m.name))
      ∙ name_at u n.name (i + 5) (omega arith) (omega (arith, m.name)) ∙ ap (λ (j : ℕ). get_or u.name j 0) k)

  record_eq : (j : ℕ) → j < 7 → task_at s j ≡ task_at u j
  record_eq j h = ⊎_elim task beyond (lt_or_le j s.count)
    where
      task : j < s.count → task_at s j ≡ task_at u j
      task l = bytes_eq (task_at s j) (task_at u j) (m.lists j h) (n.lists j h) (λ k b.
          sym (task_at_lem s m.name j k l b) ∙ at (22 + (6 * j + k)) (omega arith) ∙ task_at_lem u n.name j k (omega (arith, count_eq)) b)

      beyond : s.count ≤ j → task_at s j ≡ task_at u j
      beyond l = blank_is (task_at s j) ((passed_valid s o.set).blanks j l h) ∙ sym (blank_is (task_at u j) ((passed_valid u q.set).blanks j (omega (arith, count_eq)) h))

  sets_equal : s ≡ u
  sets_equal = set_eq s u name_eq count_eq (ext_get_or no_task s.tasks u.tasks (m.tasks ∙ sym n.tasks) (λ i h. record_eq i (omega (arith, m.tasks))))

-- a file that opens for two sets means that the sets are equal
pub one_set : (file : List ℕ) (s u : Set) → Sized s → Sized u → Opens s file → Opens u file → s ≡ u
one_set file s u m n o q = sets_equal file s u m n (opening s file (said_opens s file o)) (opening u file (said_opens u file q))

-- the file of a set whose name first differs from this set's in character k + 1 is refused with 12 at 5 + k
module _ (s u : Set) (m : length s.name ≡ 16) (n : length u.name ≡ 16) (p : Passed s) (q : Passed u) (t : List ℕ) (ht : states_of s ≤ length t) where
  byte : (i k : ℕ) → k < 16 → i < 5 + k → ((j : ℕ) → j < k → get_or s.name j 0 ≡ get_or u.name j 0) → get_or (file_of s t) i 0 ≡ get_or (header u) i 0
  byte i k b l e =
      file_header s m p t ht i (omega arith)
      ∙ ⊎_elim (λ h. fixed_at s m i h ∙ sym (fixed_at u n i h))
      (λ h. name_at s m i h (omega arith) ∙ e (i - 5) (omega arith) ∙ sym (name_at u n i h (omega arith))) (lt_or_le i 5)

  pub other_name : (k : ℕ) → k < 16 → ((j : ℕ) → j < k → get_or s.name j 0 ≡ get_or u.name j 0) → (get_or s.name k 0 ≡ get_or u.name k 0 → ⊥)
      → said_opened (open_of u (file_of s t)) ≡ record { number = header_differs; place = 5 + k; values = [] }
  other_name k b e d =
      let f = file_of s t in
      let l = file_length_lem s m p t ht in
      let long : 26 ≤ present u f = omega (arith, l) in
      let x = none_in u f 0 3 (omega arith) (λ i h. byte i k b (omega arith) e) in
      let y = none_in u f 3 5 (omega arith) (λ i h. byte i k b (omega arith) e) in
      let z = first_in u f 5 (present u f) (5 + k) (omega arith) (omega arith) (λ i h. byte i k b h e) (λ g. d (there k b g)) in
      ap said_opened
      (ap (open_tested u f) q ∙ open_header u f (omega arith) (omega arith) (omega arith) (omega arith) ∙ ap (refuse HeaderDiffers) z)
    where
      there : (k : ℕ) → k < 16 → get_or (file_of s t) (5 + k) 0 ≡ get_or (header u) (5 + k) 0 → get_or s.name k 0 ≡ get_or u.name k 0
      there k b g =
          let h : 5 + k - 5 ≡ k = omega arith in
          ap (λ (j : ℕ). get_or s.name j 0) (sym h) ∙ sym (file_header s m p t ht (5 + k) (omega arith) ∙ name_at s m (5 + k) (omega arith) (omega arith))
          ∙ g ∙ name_at u n (5 + k) (omega arith) (omega arith) ∙ ap (λ (j : ℕ). get_or u.name j 0) h
