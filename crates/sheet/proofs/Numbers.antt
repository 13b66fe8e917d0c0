-- The numbers that writing a sheet can refuse with; in the paper's terms, an answer's number is 0 or one of them. Assumes nothing.
use mathlib.Core.Path.{◌≡◌, refl, subst}
use mathlib.Core.List.Memᴰ
use mathlib.Core.List.{List, ◌∷◌}
use Prim.Native.Nat.{ℕ}
use lib.Dec.{leb}
use lib.ListN.{length}
use Rattle.arena.specs.Tests.{◌∈◌}
use Rattle.arena.proofs.Tests.{by_cond}
use Rattle.std.specs.Prelude.{Result, Ok, Err}
use Rattle.tasks.specs.declared.refusals.Refusal.{Refusal}
use Rattle.tasks.specs.declared.sets.Set.{Set}
use Rattle.tasks.specs.Refusals.{number_of, writing_numbers}
use Rattle.tasks.specs.Sets.{test_set}
use Rattle.tasks.proofs.Numbers.{listed_in}
use Rattle.tasks.proofs.Valid.{refused_listed}
use Rattle.sheet_form.specs.Sets.{text_of}
use Rattle.sheet_writer.specs.Writing.{Written, tested_write, write_of, said_wrote}

pub write_number : (s : Set) (b : List ℕ) (f : Refusal) → (write_of s b).answer ≡ Err f → number_of f.reason ∈ writing_numbers
unfolding write_of
write_number s b f e = subst Number e (by (test_set s) refl)
  where
    Number : Result ℕ Refusal → Type 0
    Number (Ok n) = Unit {0}
    Number (Err f) = number_of f.reason ∈ writing_numbers

    by : (v : Result ℕ Refusal) → test_set s ≡ v → Number (tested_write s b v).answer
    by (Err f) q = Memᴰ.append_left _ (refused_listed s f q)
    by (Ok n) q =
        by_cond (λ (w : Written). Number w.answer) (leb (length (text_of s)) (length b)) _ _ (λ _. tt) (λ _. listed_in 7 writing_numbers tt)

-- a sheet's writing gets an answer, number 0, or one numbered refusal
pub write_said : (s : Set) (b : List ℕ) → (said_wrote (write_of s b).answer).number ∈ 0 ∷ writing_numbers
write_said s b = by (write_of s b).answer refl
  where
    by : (a : Result ℕ Refusal) → (write_of s b).answer ≡ a → (said_wrote a).number ∈ 0 ∷ writing_numbers
    by (Ok n) q = Memᴰ.head refl
    by (Err f) q = Memᴰ.tail (write_number s b f q)
