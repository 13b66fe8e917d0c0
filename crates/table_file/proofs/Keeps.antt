-- What a file's writing leaves of the lent buffer, and a refused opening hands back, in the paper's terms. Assumes nothing.
use mathlib.Core.Path.{◌≡◌, refl, sym, ap, ◌∙◌}
use mathlib.Core.List.{List, [], ◌∷◌}
use Prim.Native.Nat.{ℕ}
use lib.ListN.{length, drop, get_or}
use lib.Seq.{drop_at}
use Rattle.std.specs.Prelude.{Result, Ok, Err}
use Rattle.tasks.specs.declared.refusals.Refusal.{Refusal}
use Rattle.tasks.specs.declared.sets.Set.{Set}
use Rattle.tasks.specs.Refusals.{answered}
use Rattle.table_file.specs.Files.{file_of, file_length}
use Rattle.table_file.specs.Write.{file_written, Writes, said_written}
use Rattle.table_file.specs.Open.{open_of, part_of, handed, said_opened}
use Rattle.table_file.proofs.Trips.{file_length_lem, wrote}

module _ (s : Set) (t f f' : List ℕ) (r : Result ℕ Refusal) (w : Writes s t f r f') where
  -- REFUSED, the file's bytes are as before
  pub refused_keeps : ((said_written r).number ≡ 0 → ⊥) → f' ≡ f
  refused_keeps n = w.file ∙ by r n
    where
      by : (r : Result ℕ Refusal) → ((said_written r).number ≡ 0 → ⊥) → file_written s t r f ≡ f
      by (Ok n) z = absurd (z refl)
      by (Err g) z = refl

  -- ANSWERED n, no byte beyond n is changed
  pub beyond_stays : length s.name ≡ 16 → (n : ℕ) → said_written r ≡ answered (n ∷ []) → drop n f' ≡ drop n f
  beyond_stays b n a =
      let x = wrote s t (length f) r (ap (λ a. a.number) a) w.answer in
      let k : n ≡ file_length s = ap (λ a. get_or a.values 0 0) (sym a ∙ ap said_written x.answer) in
      ap (drop n) (w.file ∙ ap (λ r. file_written s t r f) x.answer)
      ∙ drop_at (file_of s t) (drop (file_length s) f) n (file_length_lem s b x.set t x.table ∙ sym k) ∙ ap (λ n. drop n f) (sym k)

-- AN OPENING THAT IS REFUSED hands back an empty part
pub refused_empty : (s : Set) (file : List ℕ) → ((said_opened (open_of s file)).number ≡ 0 → ⊥) → handed s file ≡ []
refused_empty s file = by (open_of s file)
  where
    by : (o : Result Unit Refusal) → ((said_opened o).number ≡ 0 → ⊥) → part_of s file o ≡ []
    by (Ok _) z = absurd (z refl)
    by (Err f) z = refl
