-- What the writer answers and leaves, case by case. Assumes nothing.
use mathlib.Core.Path.{◌≡◌, refl, sym, ap, ap₂, ◌∙◌}
use mathlib.Core.List.{List, ◌++◌, append_assoc}
use Prim.Native.Nat.{ℕ, ◌+◌, ◌-◌, ◌≤◌}
use native.Mathlib.Omega.{arith}
use lib.ListN.{length, take, drop}
use lib.Seq.{take_at, drop_at, drop-drop}
use borrow.Rule.Slice.PartMut.{put_mid}
use borrow.Author.Tests.{le-ltb}
use Rattle.std.specs.Prelude.{Ok, Err}
use Rattle.tasks.specs.declared.refusals.Refusal.{Refusal}
use Rattle.tasks.specs.declared.sets.Set.{Set}
use Rattle.tasks.specs.Sets.{states_of, test_set, Passed}
use Rattle.shield.specs.Test.{test_of}
use Rattle.table_file.specs.Files.{header, header_length, file_of, file_length}
use Rattle.table_file.specs.Write.{write_verdict, write_tested, write_of, Writes}

pub refused_set : (s : Set) (t f : List ℕ) (g : Refusal) → test_set s ≡ Err g → Writes s t f (Err g) f
refused_set s t f g e = record { answer = sym (ap (write_tested s t (length f)) e); file = refl }

-- the entries of t, copied into the file from the header's end on
pub stored : (s : Set) (t f f₁ p : List ℕ) (h n : ℕ) → length (header s) ≡ header_length s → h ≡ header_length s → n ≡ states_of s
    → f₁ ≡ header s ++ drop (header_length s) f → p ≡ take n t
    → put_mid h (h + n - h) f₁ p ≡ file_of s t ++ drop (file_length s) f
unfolding file_of
stored s t f f₁ p h n l a b u e =
    let rest : drop h f₁ ≡ drop (header_length s) f = ap₂ (λ (x : ℕ) (y : List ℕ). drop x y) a u ∙ drop_at (header s) _ (header_length s) l in
    let beyond : drop (h + n - h) (drop h f₁) ≡ drop (file_length s) f = ap₂ (λ (x : ℕ) (y : List ℕ). drop x y) (omega arith) rest ∙ drop-drop (states_of s) (header_length s) f in
    let head : take h f₁ ≡ header s = ap₂ (λ (x : ℕ) (y : List ℕ). take x y) a u ∙ take_at (header s) _ (header_length s) l in
    let entries : p ≡ take (states_of s) t = e ∙ ap (λ (x : ℕ). take x t) b in
    ap₂ (λ (x y : List ℕ). x ++ y) head (ap₂ (λ (x y : List ℕ). x ++ y) entries beyond)
    ∙ sym (append_assoc (header s) (take (states_of s) t) (drop (file_length s) f))

-- a set that passes, with room in both buffers
module _ (s : Set) (p : Passed s) (t f : List ℕ) (ht : states_of s ≤ length t) (hf : file_length s ≤ length f) where
  pub with_room : write_of s t (length f) ≡ write_verdict s (test_of s t)
  with_room = ap (write_tested s t (length f)) p ∙ simp (le-ltb (length t) (states_of s) ht, le-ltb (length f) (file_length s) hf)

  pub written : (n : ℕ) (f' : List ℕ) → test_of s t ≡ Ok tt → n ≡ file_length s → f' ≡ file_of s t ++ drop (file_length s) f → Writes s t f (Ok n) f'
  written n f' e a v =
      record { answer = ap Ok a ∙ sym (with_room ∙ ap (write_verdict s) e); file = v ∙ ap (λ (x : ℕ). file_of s t ++ drop x f) (sym a) }
