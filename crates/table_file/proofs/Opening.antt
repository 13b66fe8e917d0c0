-- What a file that opens for a set is, and that such a file opens. Assumes nothing.
use mathlib.Core.Path.{◌≡◌, refl, ap, ◌∙◌}
use mathlib.Core.Logic.{⊎_elim}
use mathlib.Core.Bool.{Bool, true, false, not, ◌||◌, cond}
use mathlib.Core.List.{List}
use Prim.Native.Nat.{ℕ, ◌-◌, ◌≤◌, ◌<◌}
use native.Mathlib.Omega.{arith}
use lib.Dec.{T, eqb, ltb, eqb→eq, nltb→le}
use lib.ListN.{length, get_or, drop}
use borrow.Author.Tests.{eq-eqb, ne_eqb}
use Rattle.arena.specs.Tests.{first}
use Rattle.arena.proofs.Tests.{nor, not_not, lt_or_le, first_least, first_none, first_is}
use Rattle.tasks.specs.declared.refusals.Refusal.{Refusal}
use Rattle.std.specs.Prelude.{Result, Ok, Err}
use Rattle.tasks.specs.declared.sets.Set.{Set}
use Rattle.tasks.specs.Refusals.{number_of, open_numbers}
use Rattle.tasks.specs.Sets.{test_set, Passed}
use Rattle.tasks.proofs.Numbers.{between}
use Rattle.tasks.proofs.Valid.{passed}
use Rattle.shield.specs.Test.{test_of}
use Rattle.table_file.specs.Files.{header, header_length, file_length}
use Rattle.table_file.specs.Open.{differs, lowest, other, present, open_passed, open_tested, open_of, said_opened}
use Rattle.table_file.proofs.Numbers.{open_number}
use Rattle.table_file.proofs.OpenLaws.{open_test}

-- the set passes, the header is the set's, the length is right, and the table part passes the test
pub record Opening (s : Set) (file : List ℕ) : Type 0 where
  pub set : Passed s
  pub same : (i : ℕ) → i < header_length s → get_or file i 0 ≡ get_or (header s) i 0
  pub long : length file ≡ file_length s
  pub part : test_of s (drop (header_length s) file) ≡ Ok tt

-- what opens has taken no branch to a refusal
cond_else : (b : Bool) (f : Refusal) (x : Result Unit Refusal) → cond b (Err f) x ≡ Ok tt → T (not b) × (x ≡ Ok tt)
cond_else true f x e = let z : ⊥ = cc in absurd z
cond_else false f x e = (tt, e)

module _ (s : Set) (file : List ℕ) where
  -- bytes that do not differ
  same_in : (lo hi : ℕ) → T (not (other s file lo hi)) → (i : ℕ) → lo ≤ i → i < hi → get_or file i 0 ≡ get_or (header s) i 0
  unfolding lowest
  same_in lo hi t i l h =
      let q : i < first (differs s file) (hi - lo) lo = omega (arith, nltb→le (lowest s file lo hi) hi t) in
      eqb→eq (get_or file i 0) (get_or (header s) i 0) (not_not (eqb (get_or file i 0) (get_or (header s) i 0)) (first_least (differs s file) (hi - lo) lo i l q))

  pub none_in : (lo hi : ℕ) → lo ≤ hi → ((i : ℕ) → i < hi → get_or file i 0 ≡ get_or (header s) i 0) → lowest s file lo hi ≡ hi
  unfolding lowest
  none_in lo hi l h =
      first_none (differs s file) (hi - lo) lo (λ j p q. ap not (eq-eqb (get_or file j 0) (get_or (header s) j 0) (h j (omega arith)))) ∙ omega arith

  pub first_in : (lo hi i : ℕ) → lo ≤ i → i < hi → ((j : ℕ) → j < i → get_or file j 0 ≡ get_or (header s) j 0) → (get_or file i 0 ≡ get_or (header s) i 0 → ⊥) → lowest s file lo hi ≡ i
  unfolding lowest
  first_in lo hi i l b h e =
      first_is (differs s file) (hi - lo) lo i l (omega arith) (λ j p q. ap not (eq-eqb (get_or file j 0) (get_or (header s) j 0) (h j q)))
      (ap not (ne_eqb (get_or file i 0) (get_or (header s) i 0) e))

  tested : (t : Result ℕ Refusal) → test_set s ≡ t → open_tested s file t ≡ Ok tt → Passed s × (open_passed s file ≡ Ok tt)
  tested (Ok n) q e = (passed s n q, e)
  tested (Err f) q e = let z : ⊥ = cc in absurd z

  pub opening : open_of s file ≡ Ok tt → Opening s file
  unfolding open_passed
  opening e =
      let p = tested (test_set s) refl e in
      let m = cond_else (ltb (length file) 5 || other s file 0 3) _ _ p.1 in
      let v = cond_else (other s file 3 5) _ _ m.1 in
      let h = cond_else (other s file 5 (present s file)) _ _ v.1 in
      let l = cond_else (not (eqb (length file) (file_length s))) _ _ h.1 in
      let long = eqb→eq (length file) (file_length s) (not_not (eqb (length file) (file_length s)) l.0) in
      record {
        set = p.0;
        same = λ i b. ⊎_elim (λ x. same_in 0 3 (nor (ltb (length file) 5) (other s file 0 3) m.0).1 i (omega arith) x)
            (λ x. ⊎_elim (λ y. same_in 3 5 v.0 i x y) (λ y. same_in 5 (present s file) h.0 i y (omega arith)) (lt_or_le i 5)) (lt_or_le i 3);
        long = long;
        part = l.1;
      }

  pub opens : Opening s file → open_of s file ≡ Ok tt
  opens o =
      let all : (lo hi : ℕ) → lo ≤ hi → hi ≤ header_length s → lowest s file lo hi ≡ hi = λ lo hi l h. none_in lo hi l (λ i b. o.same i (omega arith)) in
      let mark : 3 ≤ lowest s file 0 3 = omega (arith, all 0 3 (omega arith) (omega arith)) in
      let version : 5 ≤ lowest s file 3 5 = omega (arith, all 3 5 (omega arith) (omega arith)) in
      let behind : present s file ≤ lowest s file 5 (present s file) = omega (arith, o.long, all 5 (present s file) (omega (arith, o.long)) (omega arith)) in
      ap (open_tested s file) o.set ∙ open_test s file (omega (arith, o.long)) mark version behind o.long ∙ o.part

  -- an answer that refuses nothing is `Ok`
  pub said_opens : (said_opened (open_of s file)).number ≡ 0 → open_of s file ≡ Ok tt
  said_opens h = by (open_of s file) refl
    where
      by : (v : Result Unit Refusal) → open_of s file ≡ v → open_of s file ≡ Ok tt
      by (Ok tt) q = q
      by (Err f) q = absurd (omega (arith, (between 1 21 open_numbers tt (number_of f.reason) (open_number s file f q)).0, ap (λ v. (said_opened v).number) q))
