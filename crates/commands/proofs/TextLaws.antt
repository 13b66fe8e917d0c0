-- Laws of texts: a text from a place on, split at a byte, and compared.
use mathlib.Core.Bool.{Bool, true, false, cond}
use mathlib.Core.List.{List, [], ◌∷◌}
use mathlib.Core.Path.{◌≡◌, refl, sym, ◌∙◌}
use Prim.Native.Nat.{ℕ, suc, ◌+◌, ◌<◌, ◌≤◌}
use native.Mathlib.Numerals.{add-one}
use native.Mathlib.Omega.{arith}
use borrow.Author.Tests.{ltb-false, eq-eqb, ne_eqb}
use lib.Dec.{eqb, ltb}
use lib.ListN.{length, take, drop, get_or, drop_of_length-le}
use lib.Seq.{drop-cons}
use Rattle.std.specs.Prelude.{Some, None, unwrap_or, position}
use Rattle.std.specs.List.{position_or_len}
use Rattle.commands.specs.Texts.{index_of, parts}

-- the part before the first b
abbrev pub first : ℕ → List ℕ → List ℕ
first b l = take (index_of b l) l

one_part : (b : ℕ) (l : List ℕ) → index_of b l ≡ length l → parts b l ≡ first b l ∷ []
unfolding index_of parts
one_part b [] h = refl
one_part b (x ∷ l) h = step (eqb x b) refl (one_part b l)
  where
    step : (t : Bool) → eqb x b ≡ t → (index_of b l ≡ length l → parts b l ≡ first b l ∷ []) → parts b (x ∷ l) ≡ first b (x ∷ l) ∷ []
    step true e k = let z : index_of b (x ∷ l) ≡ 0 = simp e in let w : ⊥ = omega arith in absurd w
    step false e k = let z : index_of b (x ∷ l) ≡ suc (index_of b l) = simp e in simp (e, k (omega arith))

more_parts : (b : ℕ) (l : List ℕ) → index_of b l < length l → parts b l ≡ first b l ∷ parts b (drop (suc (index_of b l)) l)
unfolding index_of parts
more_parts b [] h = let z : ⊥ = omega arith in absurd z
more_parts b (x ∷ l) h = step (eqb x b) refl (more_parts b l)
  where
    step : (t : Bool) → eqb x b ≡ t → (index_of b l < length l → parts b l ≡ first b l ∷ parts b (drop (suc (index_of b l)) l)) →
        parts b (x ∷ l) ≡ first b (x ∷ l) ∷ parts b (drop (suc (index_of b (x ∷ l))) (x ∷ l))
    step true e k = simp e
    step false e k = let z : index_of b (x ∷ l) ≡ suc (index_of b l) = simp e in simp (e, k (omega arith))

-- a text has a first part
pub some_part : (b : ℕ) (l : List ℕ) → parts b l ≡ first b l ∷ drop 1 (parts b l)
unfolding index_of parts
some_part b [] = refl
some_part b (x ∷ l) = step (eqb x b) refl (some_part b l)
  where
    step : (t : Bool) → eqb x b ≡ t → parts b l ≡ first b l ∷ drop 1 (parts b l) → parts b (x ∷ l) ≡ first b (x ∷ l) ∷ drop 1 (parts b (x ∷ l))
    step true e h = simp e
    step false e h = rw (e, h)

-- the same, where r is the place of the first b
module _ (b : ℕ) (l : List ℕ) (r : ℕ) (found : r ≡ index_of b l) where
  pub parts_first : parts b l ≡ take r l ∷ drop 1 (parts b l)
  parts_first = rw found (some_part b l)

  pub parts_last : r ≡ length l → parts b l ≡ take r l ∷ []
  parts_last e = rw found (one_part b l (sym found ∙ e))

  pub parts_more : r < length l → parts b l ≡ take r l ∷ parts b (drop (r + 1) l)
  parts_more h = rw (found, add-one) (more_parts b l (omega (arith, found)))

-- FOUND

module _ (b : ℕ) where
  first_index : (l : List ℕ) → position_or_len (λ x. eqb x b) l ≡ index_of b l
  unfolding index_of
  first_index [] = refl
  first_index (x ∷ l) = step (eqb x b) refl (first_index l)
    where
      step : (t : Bool) → eqb x b ≡ t → position_or_len (λ x. eqb x b) l ≡ index_of b l → position_or_len (λ x. eqb x b) (x ∷ l) ≡ index_of b (x ∷ l)
      step true e h = simp e
      step false e h = simp (e, h) (omega arith)

  pub index_inside : (l : List ℕ) → index_of b l ≤ length l
  unfolding index_of
  index_inside [] = omega arith
  index_inside (x ∷ l) = step (eqb x b) refl (index_inside l)
    where
      step : (t : Bool) → eqb x b ≡ t → index_of b l ≤ length l → index_of b (x ∷ l) ≤ length (x ∷ l)
      step true e h = rw e (omega arith)
      step false e h = rw e (omega arith)

  pub index_found : (l : List ℕ) → unwrap_or (position (λ x. eqb x b) l) (length l) ≡ index_of b l
  index_found l = rw (first_index l) (step (ltb (index_of b l) (length l)) refl)
    where
      step : (t : Bool) → ltb (index_of b l) (length l) ≡ t → unwrap_or (cond t (Some (index_of b l)) None) (length l) ≡ index_of b l
      step true e = refl
      step false e = omega (arith, ltb-false _ _ e, index_inside l)

-- the same from a place on, one place after the other
module _ (b : ℕ) (l : List ℕ) (i : ℕ) where
  pub index_here : i < length l → get_or l i 0 ≡ b → index_of b (drop i l) ≡ 0
  unfolding index_of
  index_here h e = rw (drop-cons l i 0 h) (simp (eq-eqb _ _ e))

  pub index_next : i < length l → (get_or l i 0 ≡ b → ⊥) → i + index_of b (drop i l) ≡ i + 1 + index_of b (drop (i + 1) l)
  unfolding index_of
  index_next h n = rw (add-one, drop-cons l i 0 h) (simp (ne_eqb _ _ n) (omega arith))

  pub index_end : length l ≤ i → index_of b (drop i l) ≡ 0
  unfolding index_of
  index_end h = rw (drop_of_length-le l {i = i} h)
