-- The numbers that the writer and the opener can refuse with; in the paper's terms, an answer's number is 0 or one of them. Assumes nothing.
use mathlib.Core.Path.{◌≡◌, refl, sym, subst}
use mathlib.Core.Bool.{not, ◌||◌}
use mathlib.Core.List.Memᴰ
use mathlib.Core.List.{List, ◌∷◌}
use Prim.Native.Nat.{ℕ}
use native.Mathlib.Omega.{arith}
use lib.Dec.{eqb, eqb→eq, ltb}
use lib.ListN.{length, drop, length-drop}
use Rattle.arena.specs.Tests.{◌∈◌}
use Rattle.arena.proofs.Tests.{not_not, by_cond}
use Rattle.tasks.specs.declared.refusals.Refusal.{Refusal}
use Rattle.std.specs.Prelude.{Option, None, Some, Result, Ok, Err}
use Rattle.tasks.specs.declared.sets.Set.{Set}
use Rattle.tasks.specs.Refusals.{number_of, test_numbers, open_numbers}
use Rattle.tasks.specs.Sets.{test_set, Passed}
use Rattle.tasks.proofs.Numbers.{listed_in}
use Rattle.tasks.proofs.Valid.{passed, refused_listed}
use Rattle.shield.specs.Test.{fault_in, found, test_of}
use Rattle.shield.proofs.Numbers.{test_number}
use Rattle.shield.proofs.Tested.{test_long}
use Rattle.table_file.specs.Files.{header_length, file_length}
use Rattle.table_file.specs.Write.{write_verdict, write_tested, write_of, said_written}
use Rattle.table_file.specs.Open.{other, present, open_passed, open_tested, open_of, said_opened}

-- FILE WRITING
pub write_number : (s : Set) (table : List ℕ) (m : ℕ) (f : Refusal) → write_of s table m ≡ Err f → number_of f.reason ∈ test_numbers
write_number s table m f e = subst Number e (by (test_set s) refl)
  where
    Number : Result ℕ Refusal → Type 0
    Number (Ok n) = Unit {0}
    Number (Err f) = number_of f.reason ∈ test_numbers

    judged : (v : Result Unit Refusal) → test_of s table ≡ v → Number (write_verdict s v)
    judged (Ok u) q = tt
    judged (Err f) q = test_number s table f q

    by : (v : Result ℕ Refusal) → test_set s ≡ v → Number (write_tested s table m v)
    by (Err f) q = Memᴰ.append_left _ (refused_listed s f q)
    by (Ok S) q =
        by_cond Number (ltb (length table) S) _ _ (λ _. listed_in 7 test_numbers tt)
        (λ _. by_cond Number (ltb m (file_length s)) _ _ (λ _. listed_in 7 test_numbers tt) (λ _. judged (test_of s table) refl))

-- a file's writing gets an answer, number 0, or one numbered refusal
pub write_said : (s : Set) (table : List ℕ) (m : ℕ) → (said_written (write_of s table m)).number ∈ 0 ∷ test_numbers
write_said s table m = by (write_of s table m) refl
  where
    by : (a : Result ℕ Refusal) → write_of s table m ≡ a → (said_written a).number ∈ 0 ∷ test_numbers
    by (Ok n) q = Memᴰ.head refl
    by (Err f) q = Memᴰ.tail (write_number s table m f q)

-- OPEN
pub open_number : (s : Set) (file : List ℕ) (f : Refusal) → open_of s file ≡ Err f → number_of f.reason ∈ open_numbers
unfolding open_passed
open_number s file f e = subst Number e (by (test_set s) refl)
  where
    Number : Result Unit Refusal → Type 0
    Number (Ok _) = Unit {0}
    Number (Err f) = number_of f.reason ∈ open_numbers

    judged : (o : Option ℕ) → Number (found o)
    judged None = tt
    judged (Some m) = listed_in 13 open_numbers tt

    -- the table part of a file of the right length is long enough, so that 7 is not among them
    part : Passed s → length file ≡ file_length s → Number (test_of s (drop (header_length s) file))
    part p l =
        let t = drop (header_length s) file in
        subst Number (sym (test_long s p t (omega (arith, length-drop (header_length s) file)))) (judged (fault_in s t))

    by : (v : Result ℕ Refusal) → test_set s ≡ v → Number (open_tested s file v)
    by (Err f) q = Memᴰ.append_left _ (refused_listed s f q)
    by (Ok S) q =
        by_cond Number (ltb (length file) 5 || other s file 0 3) _ _ (λ _. listed_in 9 open_numbers tt)
        (λ _. by_cond Number (other s file 3 5) _ _ (λ _. listed_in 10 open_numbers tt)
        (λ _. by_cond Number (other s file 5 (present s file)) _ _ (λ _. listed_in 12 open_numbers tt)
        (λ _. by_cond Number (not (eqb (length file) (file_length s))) _ _ (λ _. listed_in 11 open_numbers tt)
        (λ r. part (passed s S q) (eqb→eq (length file) (file_length s) (not_not (eqb (length file) (file_length s)) r))))))

-- an opening gets an answer, number 0, or one numbered refusal
pub open_said : (s : Set) (file : List ℕ) → (said_opened (open_of s file)).number ∈ 0 ∷ open_numbers
open_said s file = by (open_of s file) refl
  where
    by : (a : Result Unit Refusal) → open_of s file ≡ a → (said_opened a).number ∈ 0 ∷ open_numbers
    by (Ok _) q = Memᴰ.head refl
    by (Err f) q = Memᴰ.tail (open_number s file f q)
