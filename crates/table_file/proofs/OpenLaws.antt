-- What the opener answers to a file that holds mark and version. Assumes nothing.
use mathlib.Core.Path.{◌≡◌}
use mathlib.Core.List.{List}
use Prim.Native.Nat.{ℕ, ◌-◌, ◌≤◌, ◌<◌}
use native.Mathlib.Nat.{le_of_eq}
use lib.ListN.{length, take, drop, length-drop}
use lib.Seq.{take_all}
use borrow.Author.Tests.{lt-ltb, le-ltb, eq-eqb}
use Rattle.tasks.specs.declared.sets.Set.{Set}
use Rattle.tasks.specs.declared.refusals.Reason.TheVariants.{WrongVersion, HeaderDiffers}
use Rattle.shield.specs.Test.{test_of}
use Rattle.table_file.specs.Files.{header_length, file_length}
use Rattle.table_file.specs.Open.{lowest, present, refuse, open_passed}

-- a file from place k on
pub rest : (k : ℕ) (l : List ℕ) → take (length l - k) (drop k l) ≡ drop k l
rest k l = take_all (length l - k) (drop k l) (le_of_eq (length-drop k l))

-- a mark that is right, and a version that is not
pub open_version : (s : Set) (file : List ℕ) → 5 ≤ length file → 3 ≤ lowest s file 0 3 → lowest s file 3 5 < 5 → open_passed s file ≡ refuse WrongVersion 3
unfolding open_passed
open_version s file long mark h =
    simp (le-ltb (length file) 5 long, le-ltb (lowest s file 0 3) 3 mark, lt-ltb (lowest s file 3 5) 5 h)

-- both right, and what comes behind them
module _ (s : Set) (file : List ℕ) (long : 5 ≤ length file) (mark : 3 ≤ lowest s file 0 3) (version : 5 ≤ lowest s file 3 5) where
  pub open_header : lowest s file 5 (present s file) < present s file → open_passed s file ≡ refuse HeaderDiffers (lowest s file 5 (present s file))
  unfolding open_passed
  open_header h =
      simp (le-ltb (length file) 5 long, le-ltb (lowest s file 0 3) 3 mark, le-ltb (lowest s file 3 5) 5 version, lt-ltb (lowest s file 5 (present s file)) (present s file) h)

  pub open_test : present s file ≤ lowest s file 5 (present s file) → length file ≡ file_length s
      → open_passed s file ≡ test_of s (drop (header_length s) file)
  unfolding open_passed
  open_test h l =
      simp (le-ltb (length file) 5 long, le-ltb (lowest s file 0 3) 3 mark, le-ltb (lowest s file 3 5) 5 version, le-ltb (lowest s file 5 (present s file)) (present s file) h, eq-eqb (length file) (file_length s) l)
