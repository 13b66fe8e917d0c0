-- Laws of lists. Assumes nothing.
use mathlib.Core.Path.{◌≡◌, refl, sym, ap, ◌∙◌}
use mathlib.Core.List.{List, [], ◌∷◌, ◌++◌, append_assoc, append-nil}
use Prim.Native.Nat.{ℕ}
use Rattle.sheet_form.specs.Form.{each, Each}

module _ {A : Type 0} where
  pub each_append : (f : A → List ℕ) (xs ys : List A) → each f (xs ++ ys) ≡ each f xs ++ each f ys
  each_append f [] ys = refl
  each_append f (x ∷ xs) ys = ap (λ l. f x ++ l) (each_append f xs ys) ∙ sym (append_assoc (f x) (each f xs) (each f ys))

  pub each_snoc : (f : A → List ℕ) (xs : List A) (x : A) → each f (xs ++ (x ∷ [])) ≡ each f xs ++ f x
  each_snoc f xs x = each_append f xs (x ∷ []) ∙ ap (λ l. each f xs ++ l) (append-nil (f x))

  pub Each_snoc : (P : A → Type 0) (xs : List A) (x : A) → Each P xs → P x → Each P (xs ++ (x ∷ []))
  Each_snoc P [] x h p = (p, tt)
  Each_snoc P (y ∷ xs) x h p = (h.0, Each_snoc P xs x h.1 p)
