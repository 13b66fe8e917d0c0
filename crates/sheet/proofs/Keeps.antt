-- What a sheet's writing leaves of the lent buffer, by its answer in the paper's terms. Assumes nothing.
use mathlib.Core.Path.{◌≡◌, refl, ap, ◌∙◌}
use mathlib.Core.List.{List, [], ◌∷◌}
use Prim.Native.Nat.{ℕ}
use lib.Dec.{leb}
use lib.ListN.{length, drop, get_or}
use lib.Seq.{drop_at}
use Rattle.arena.proofs.Tests.{by_cond}
use Rattle.std.specs.Prelude.{Result, Ok, Err}
use Rattle.tasks.specs.declared.refusals.Refusal.{Refusal}
use Rattle.tasks.specs.declared.sets.Set.{Set}
use Rattle.tasks.specs.Refusals.{answered}
use Rattle.tasks.specs.Sets.{test_set}
use Rattle.sheet_form.specs.Sets.{text_of}
use Rattle.sheet_writer.specs.Writing.{Written, tested_write, write_of, said_wrote}

module _ (s : Set) (b : List ℕ) where
  -- REFUSED, the buffer's bytes are as before
  pub refused_keeps : ((said_wrote (write_of s b).answer).number ≡ 0 → ⊥) → (write_of s b).bytes ≡ b
  unfolding write_of
  refused_keeps = by (test_set s)
    where
      Kept : Written → Type 0
      Kept w = ((said_wrote w.answer).number ≡ 0 → ⊥) → w.bytes ≡ b

      by : (v : Result ℕ Refusal) → Kept (tested_write s b v)
      by (Err f) = λ z. refl
      by (Ok k) = by_cond Kept (leb (length (text_of s)) (length b)) _ _ (λ _ z. absurd (z refl)) (λ _ z. refl)

  -- ANSWERED n, no byte beyond n is changed
  pub beyond_stays : (n : ℕ) → said_wrote (write_of s b).answer ≡ answered (n ∷ []) → drop n (write_of s b).bytes ≡ drop n b
  unfolding write_of
  beyond_stays n = by (test_set s)
    where
      Stays : Written → Type 0
      Stays w = said_wrote w.answer ≡ answered (n ∷ []) → drop n w.bytes ≡ drop n b

      by : (v : Result ℕ Refusal) → Stays (tested_write s b v)
      by (Err f) = λ e. refl
      by (Ok k) =
          by_cond Stays (leb (length (text_of s)) (length b)) _ _
          (λ _ e. let k : length (text_of s) ≡ n = ap (λ a. get_or a.values 0 0) e in drop_at (text_of s) (drop (length (text_of s)) b) n k ∙ ap (λ n. drop n b) k)
          (λ _ e. refl)
