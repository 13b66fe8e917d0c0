-- The opener: what it answers, and the part of the file that it hands back.
use Rattle.std.specs.Prelude.{Bool, not, ◌||◌, cond, List, [], ℕ, ◌-◌, eqb, ltb, length, get_or, drop, min, Option, Some, None, Result, Ok, Err}
use Rattle.tasks.specs.declared.refusals.Refusal.{Refusal}
use Rattle.arena.specs.Tests.{first}
use Rattle.tasks.specs.declared.sets.Set.{Set}
use Rattle.tasks.specs.declared.refusals.Reason.{Reason}
use Rattle.tasks.specs.declared.refusals.Reason.TheVariants.{WrongMark, WrongVersion, WrongLength, HeaderDiffers}
use Rattle.tasks.specs.Refusals.{Said, answered, refusing}
use Rattle.tasks.specs.Sets.{test_set}
use Rattle.shield.specs.Test.{test_of}
use Rattle.table_file.specs.Files.{header, header_length, file_length}

-- the file's byte i differs from that of this set's header
abbrev pub differs : Set → List ℕ → ℕ → Bool
differs s file i = not (eqb (get_or file i 0) (get_or (header s) i 0))

-- the lowest byte from lo on that differs, hi where none before hi does
unfoldable pub lowest : Set → List ℕ → ℕ → ℕ → ℕ
lowest s file lo hi = first (differs s file) (hi - lo) lo

-- some byte from lo on and before hi differs
abbrev pub other : Set → List ℕ → ℕ → ℕ → Bool
other s file lo hi = ltb (lowest s file lo hi) hi

-- that byte, if some byte from lo on and before hi differs
abbrev pub difference : Set → List ℕ → ℕ → ℕ → Option ℕ
difference s file lo hi = cond (other s file lo hi) (Some (lowest s file lo hi)) None

-- how many bytes of the header are present
abbrev pub present : Set → List ℕ → ℕ
present s file = min (length file) (header_length s)

abbrev pub refuse : Reason → ℕ → Result Unit Refusal
refuse r p = Err (record { reason = r; place = p })

-- a set that passes: the mark, the version, the header's bytes present from offset 5, the length, the test of the table part
unfoldable pub open_passed : Set → List ℕ → Result Unit Refusal
open_passed s file =
    cond (ltb (length file) 5 || other s file 0 3) (refuse WrongMark 0)
    (cond (other s file 3 5) (refuse WrongVersion 3)
    (cond (other s file 5 (present s file)) (refuse HeaderDiffers (lowest s file 5 (present s file)))
    (cond (not (eqb (length file) (file_length s))) (refuse WrongLength (file_length s))
    (test_of s (drop (header_length s) file)))))

-- the set's own refusal first
abbrev pub open_tested : Set → List ℕ → Result ℕ Refusal → Result Unit Refusal
open_tested s file (Err f) = Err f
open_tested s file (Ok S) = open_passed s file

-- what the opener answers
abbrev pub open_of : Set → List ℕ → Result Unit Refusal
open_of s file = open_tested s file (test_set s)

-- the part that goes with an answer: the file from its table part on; refused, an empty part
abbrev pub part_of : Set → List ℕ → Result Unit Refusal → List ℕ
part_of s file (Ok _) = drop (header_length s) file
part_of s file (Err f) = []

-- what is handed back
abbrev pub handed : Set → List ℕ → List ℕ
handed s file = part_of s file (open_of s file)

-- the answer in the paper's terms
abbrev pub said_opened : Result Unit Refusal → Said
said_opened (Ok _) = answered []
said_opened (Err f) = refusing 0 f
