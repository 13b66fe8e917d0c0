-- The rows of a table, one after the other. Assumes nothing.
use mathlib.Core.Path.{◌≡◌, refl, sym, ap, ap₂, ◌∙◌, subst}
use mathlib.Core.List.{List, [], ◌∷◌, ◌++◌}
use Prim.Native.Nat.{ℕ, zero, suc, ◌+◌, ◌*◌, ◌/◌, ◌<◌, min}
use native.Mathlib.Numerals.{add-one}
use native.Mathlib.Omega.{arith}
use lib.ListN.{length, take, drop, length-drop}
use Rattle.std.proofs.lemmas.List.{drop-drop}
use Rattle.std.proofs.Common.{Some, None}
use Rattle.std.specs.Iterator.Adapters.{enumerate_source, enumerate_count, enumerate_steps}
use Rattle.std.specs.Slice.Iter.{chunks_rest, chunks_size, chunks_steps}
use Rattle.std.specs.declared.iter.Enumerate.{Enumerate}
use Rattle.std.specs.declared.slice.Chunks.{Chunks}
use denote.Ref.{Bor}
use Rattle.report_lines.specs.Lines.{row_line, row_lines}

pub rows_none : (t : List ℕ) → [] ≡ row_lines t 0
unfolding row_lines
rows_none t = refl

rows_more : (t : List ℕ) (k : ℕ) → row_lines t k ++ row_line (8 * k) (take 8 (drop (8 * k) t)) ≡ row_lines t (k + 1)
unfolding row_lines
rows_more t k = sym (ap (row_lines t) (add-one k))

-- a front of n bytes, or of all where they are fewer
front : (n : ℕ) (x y : List ℕ) → length x ≡ min n (length (x ++ y)) → (x ≡ take n (x ++ y)) × (y ≡ drop n (x ++ y))
front zero [] y h = (refl, refl)
front zero (a ∷ x) y h = let z : ⊥ = omega arith in absurd z
front (suc n) [] [] h = (refl, refl)
front (suc n) [] (b ∷ y) h = let z : ⊥ = omega arith in absurd z
front (suc n) (a ∷ x) y h = let f = front n x y (omega arith) in (ap (λ l. a ∷ l) f.0, f.1)

-- the rows of a table that are still to come
pub record Coming (t : List ℕ) (s : Enumerate (Chunks ℕ)) : Type 0 where
  pub size : chunks_size (enumerate_source s) ≡ 8
  pub rest : chunks_rest (enumerate_source s) ≡ drop (8 * enumerate_count s) t
  pub begun : 8 * enumerate_count s < length t + 8

pub all_coming : (t : List ℕ) (s : Enumerate (Chunks ℕ)) → chunks_size (enumerate_source s) ≡ 8 → chunks_rest (enumerate_source s) ≡ t → enumerate_count s ≡ 0 → Coming t s
all_coming t s a b e = record { size = a; rest = rw e b; begun = omega arith }

module _ {t : List ℕ} {s : Enumerate (Chunks ℕ)} (c : Coming t s) where
  -- one of them comes
  module _ (k : ℕ) (x : Bor (List ℕ)) (u : Enumerate (Chunks ℕ)) (n : enumerate_steps chunks_steps s (Some (k, x)) u) where
    its_front : (x.now ≡ take 8 (drop (8 * k) t)) × (chunks_rest (enumerate_source u) ≡ drop 8 (drop (8 * k) t))
    its_front =
        let e : x.now ++ chunks_rest (enumerate_source u) ≡ drop (8 * k) t = sym n.0.1.0 ∙ c.rest ∙ ap (λ i. drop (8 * i) t) (sym n.1) in
        subst (λ r. (x.now ≡ take 8 r) × (chunks_rest (enumerate_source u) ≡ drop 8 r)) e
        (front 8 x.now (chunks_rest (enumerate_source u)) (n.0.1.1 ∙ ap₂ min c.size (ap length n.0.1.0)))

    pub coming_next : Coming t u
    coming_next =
        let m : 8 * k + 8 ≡ 8 * enumerate_count u = omega (arith, n.1, n.2) in
        record {
          size = n.0.0 ∙ c.size;
          rest = its_front.1 ∙ drop-drop 8 (8 * k) t ∙ ap (λ i. drop i t) m;
          begun = omega (arith, n.0.1.2, n.1, n.2, ap length c.rest, length-drop (8 * enumerate_count s) t);
        }

    pub rows_next : row_lines t (enumerate_count s) ++ row_line (8 * k) x.now ≡ row_lines t (enumerate_count u)
    rows_next =
        ap₂ (λ i l. row_lines t i ++ row_line (8 * k) l) (sym n.1) its_front.0 ∙ rows_more t k ∙ ap (row_lines t) (omega (arith, n.1, n.2))

  -- none is left
  pub coming_end : (u : Enumerate (Chunks ℕ)) → enumerate_steps chunks_steps s None u → enumerate_count s ≡ (length t + 7) / 8
  coming_end u n = omega (arith, c.begun, n.0.1.0, ap length c.rest, length-drop (8 * enumerate_count s) t)
