-- A line is mangled exactly when one of the six holds.
use mathlib.Core.Bool.{Bool, true, false, not, ◌&&◌, ◌||◌, cond, or-true}
use mathlib.Core.List.{List, [], ◌∷◌}
use mathlib.Core.Path.{◌≡◌, refl, ap, ap₂, sym, ◌∙◌}
use Prim.Native.Nat.{ℕ, suc, ◌+◌}
use native.Mathlib.Omega.{arith}
use borrow.Author.Tests.{eq-eqb, ne_eqb, eqb-true, not-true}
use lib.Dec.{eqb, leb}
use lib.ListN.{length, get_or, drop}
use Rattle.commands.specs.declared.buffers.Lengths.{Lengths}
use Rattle.commands.specs.declared.forms.Values.{Values}
use Rattle.commands.specs.Texts.{parts, in_front}
use Rattle.std.specs.Prelude.{Option, Some, None, is_some, is_none, bytes_eq}
use Rattle.commands.specs.Words.{each, digit, is_number, is_bytes, well_begun, hex_digit}
use Rattle.commands.specs.Buffers.{buffer_of}
use Rattle.commands.specs.Forms.{asks_bytes, no_values}
use Rattle.commands.specs.Lines.{page, words, rows, fit, fit_rows, parse_of, taken_or}
use Rattle.commands.specs.Mangled.{some, ends_in_space, two_together, has_form, formed, named, counted, too_long, badly_spaced, no_command, wrong_number, bad_form, ranged, out_of_range, one_holds}
use Rattle.commands.proofs.TextLaws.{first, some_part}
use Rattle.commands.proofs.Ranges.{clash, and_left, and_right, well_made, fit_exactly, rows_made}

-- A LINE THAT HAS A ROW'S FORMS

formed_number : (fs ws : List (List ℕ)) → formed fs ws ≡ true → length fs ≡ length ws
unfolding formed
formed_number [] [] h = refl
formed_number [] (w ∷ ws) h = clash (sym h)
formed_number (f ∷ fs) [] h = clash (sym h)
formed_number (f ∷ fs) (w ∷ ws) h = ap suc (formed_number fs ws (and_right (has_form f w) _ h))

-- an empty word has no form
form_some : (f : List ℕ) → has_form f [] ≡ false
unfolding has_form buffer_of is_bytes is_number well_begun
form_some [] = step (asks_bytes 0)
  where
    step : (d : Bool) → cond d false false ≡ false
    step true = refl
    step false = refl
form_some (x ∷ f) = step (leb 97 x) (eqb x 85) (asks_bytes x)
  where
    step : (a b d : Bool) → cond a false (cond b false (cond d false false)) ≡ false
    step true b d = refl
    step false true d = refl
    step false false true = refl
    step false false false = refl

formed_spaced : (fs ws : List (List ℕ)) → formed fs ws ≡ true → some (λ w. eqb (length w) 0) ws ≡ false
unfolding formed
formed_spaced [] [] h = refl
formed_spaced [] (w ∷ ws) h = clash (sym h)
formed_spaced (f ∷ fs) [] h = refl
formed_spaced (f ∷ fs) ([] ∷ ws) h = clash (sym (and_left (has_form f []) _ h) ∙ form_some f)
formed_spaced (f ∷ fs) ((b ∷ w) ∷ ws) h =
    let n : length (b ∷ w) ≡ 0 → ⊥ = λ e. omega arith in
    simp (ne_eqb _ _ n) (formed_spaced fs ws (and_right (has_form f (b ∷ w)) _ h))

formed_counted : (fs ws : List (List ℕ)) → formed (fs) (ws) ≡ true → (length fs ≡ 0 → ⊥) → counted fs ws ≡ true
unfolding formed
formed_counted [] ws h n = absurd (n refl)
formed_counted (f ∷ fs) [] h n = clash (sym h)
formed_counted (f ∷ fs) (w ∷ ws) h n = simp (and_left (has_form f w) _ h, eq-eqb _ _ (formed_number (f ∷ fs) (w ∷ ws) h))

-- THE ROWS

module _ (f g : List ℕ → Bool) (h : (x : List ℕ) → f x ≡ true → g x ≡ true) where
  some_more : (l : List (List ℕ)) → some f l ≡ true → some g l ≡ true
  some_more [] e = e
  some_more (x ∷ l) e = step (f x) refl e (some_more l)
    where
      step : (t : Bool) → f x ≡ t → (t || some f l) ≡ true → (some f l ≡ true → some g l ≡ true) → (g x || some g l) ≡ true
      step true p q k = simp (h x p)
      step false p q k = simp (k q) (or-true (g x))

some_same : (t f g : List ℕ → Bool) → ((x : List ℕ) → t x ≡ true → f x ≡ g x) → (l : List (List ℕ)) → each t l ≡ true → some f l ≡ some g l
some_same t f g h [] e = refl
some_same t f g h (x ∷ l) e = ap₂ ◌||◌ (h x (and_left _ _ e)) (some_same t f g h l (and_right (t x) _ e))

module _ (l : Lengths) (ws : List (List ℕ)) where
  -- the words have the row's forms, and are in its ranges
  abbrev good : List ℕ → Bool
  good row = formed (words row) ws && ranged l (words row) ws

  unfit_mangled : (kind : ℕ) (rs : List (List ℕ)) → is_none (fit_rows l kind rs ws) ≡ not (some (λ row. is_some (fit l no_values 0 (words row) ws)) rs)
  unfolding fit_rows
  unfit_mangled kind [] = refl
  unfit_mangled kind (row ∷ rs) = step (fit l no_values 0 (words row) ws) (unfit_mangled (kind + 1) rs)
    where
      step : (x : Option Values) → is_none (fit_rows l (kind + 1) rs ws) ≡ not (some (λ row. is_some (fit l no_values 0 (words row) ws)) rs) →
          is_none (taken_or kind x (fit_rows l (kind + 1) rs ws)) ≡ not (is_some x || some (λ row. is_some (fit l no_values 0 (words row) ws)) rs)
      step None k = k
      step (Some vs) k = refl

  rows_mangled : is_none (fit_rows l 0 rows ws) ≡ not (some good rows)
  rows_mangled =
      unfit_mangled 0 rows
      ∙ ap not (some_same (λ row. well_made (words row)) (λ row. is_some (fit l no_values 0 (words row) ws)) good (λ row h. fit_exactly l (words row) ws h) rows rows_made)

  row_formed : (row : List ℕ) → good row ≡ true → formed (words row) ws ≡ true
  row_formed row h = and_left _ _ h

  row_counted : (row : List ℕ) → good row ≡ true → counted (words row) ws ≡ true
  row_counted row h = formed_counted (words row) ws (row_formed row h) (λ e. omega (arith, ap length (some_part 32 row)))

  row_named : (row : List ℕ) → good row ≡ true → named (words row) ws ≡ true
  row_named row h = and_left _ _ (row_counted row h)

  rows_spaced : (rs : List (List ℕ)) → some good rs ≡ true → some (λ w. eqb (length w) 0) ws ≡ false
  rows_spaced [] e = clash (sym e)
  rows_spaced (row ∷ rs) e = step (good row) refl e (rows_spaced rs)
    where
      step : (t : Bool) → good row ≡ t → (t || some good rs) ≡ true → (some good rs ≡ true → some (λ w. eqb (length w) 0) ws ≡ false) → some (λ w. eqb (length w) 0) ws ≡ false
      step true p q k = formed_spaced (words row) ws (row_formed row p)
      step false p q k = k q

-- NO LINE HAS THE FORMS OF TWO ROWS

same_is : (a b : List ℕ) → bytes_eq a b ≡ true → a ≡ b
same_is [] [] h = refl
same_is [] (y ∷ b) h = clash (sym h)
same_is (x ∷ a) [] h = clash (sym h)
same_is (x ∷ a) (y ∷ b) h = ap₂ ◌∷◌ (eqb-true x y (and_left _ _ h)) (same_is a b (and_right (eqb x y) _ h))

-- f is a fixed word, and has not the other form
abbrev other : List ℕ → List ℕ → Bool
other f g = leb 97 (get_or f 0 0) && not (has_form g f)

fixed_form : (f w : List ℕ) → leb 97 (get_or f 0 0) ≡ true → has_form f w ≡ true → f ≡ w
unfolding has_form
fixed_form f w e h = same_is f w (simp e at h)

no_both : (f g w : List ℕ) → other f g ≡ true → has_form f w ≡ true → has_form g w ≡ true → ⊥
no_both f g w h p q =
    clash (sym q ∙ ap (has_form g) (sym (fixed_form f w (and_left _ _ h) p)) ∙ not-true _ (and_right (leb 97 (get_or f 0 0)) _ h))

abbrev apart : List (List ℕ) → List (List ℕ) → Bool
apart [] [] = false
apart [] (g ∷ gs) = true
apart (f ∷ fs) [] = true
apart (f ∷ fs) (g ∷ gs) = other f g || (other g f || apart fs gs)

formed_apart : (fs gs ws : List (List ℕ)) → apart fs gs ≡ true → formed fs ws ≡ true → formed gs ws ≡ true → ⊥
unfolding formed
formed_apart [] [] ws h p q = clash (sym h)
formed_apart [] (g ∷ gs) [] h p q = clash (sym q)
formed_apart [] (g ∷ gs) (w ∷ ws) h p q = clash (sym p)
formed_apart (f ∷ fs) [] [] h p q = clash (sym p)
formed_apart (f ∷ fs) [] (w ∷ ws) h p q = clash (sym q)
formed_apart (f ∷ fs) (g ∷ gs) [] h p q = clash (sym p)
formed_apart (f ∷ fs) (g ∷ gs) (w ∷ ws) h p q = step (other f g) (other g f) refl refl h (formed_apart fs gs ws)
  where
    step : (t u : Bool) → other f g ≡ t → other g f ≡ u → (t || (u || apart fs gs)) ≡ true → (apart fs gs ≡ true → formed fs ws ≡ true → formed gs ws ≡ true → ⊥) → ⊥
    step true u e d r k = no_both f g w e (and_left _ _ p) (and_left _ _ q)
    step false true e d r k = no_both g f w d (and_left _ _ q) (and_left _ _ p)
    step false false e d r k = k r (and_right (has_form f w) _ p) (and_right (has_form g w) _ q)

abbrev all_apart : List (List ℕ) → Bool
all_apart [] = true
all_apart (row ∷ rs) = each (λ q. apart (words row) (words q)) rs && all_apart rs

rows_apart : all_apart rows ≡ true
unfolding page parts has_form buffer_of asks_bytes is_bytes is_number well_begun digit hex_digit
rows_apart = refl

module _ (l : Lengths) (ws : List (List ℕ)) where
  abbrev outside : List ℕ → Bool
  outside row = formed (words row) ws && not (ranged l (words row) ws)

  alone : (row : List ℕ) (t : List ℕ → Bool) → formed (words row) ws ≡ true → (rs : List (List ℕ)) → each (λ q. apart (words row) (words q)) rs ≡ true →
      some (λ q. formed (words q) ws && t q) rs ≡ false
  alone row t p [] h = refl
  alone row t p (q ∷ rs) h = step (formed (words q) ws) refl (alone row t p rs (and_right (apart (words row) (words q)) _ h))
    where
      step : (x : Bool) → formed (words q) ws ≡ x → some (λ q. formed (words q) ws && t q) rs ≡ false → ((x && t q) || some (λ q. formed (words q) ws && t q) rs) ≡ false
      step true e k = absurd (formed_apart (words row) (words q) ws (and_left _ _ h) p e)
      step false e k = k

  none_outside : (rs : List (List ℕ)) → all_apart rs ≡ true → some (good l ws) rs ≡ true → some outside rs ≡ false
  none_outside [] h g = refl
  none_outside (row ∷ rs) h g = step (formed (words row) ws) (ranged l (words row) ws) refl g (none_outside rs (and_right (each (λ q. apart (words row) (words q)) rs) _ h))
    where
      step : (x y : Bool) → formed (words row) ws ≡ x → ((x && y) || some (good l ws) rs) ≡ true → (some (good l ws) rs ≡ true → some outside rs ≡ false) →
          ((x && not y) || some outside rs) ≡ false
      step true true e g k = alone row (λ q. not (ranged l (words q) ws)) e rs (and_left _ _ h)
      step true false e g k = clash (sym g ∙ alone row (λ q. ranged l (words q) ws) e rs (and_left _ _ h))
      step false y e g k = k g

  some_outside : (rs : List (List ℕ)) → some (λ row. formed (words row) ws) rs ≡ true → some (good l ws) rs ≡ false → some outside rs ≡ true
  some_outside [] h g = h
  some_outside (row ∷ rs) h g = step (formed (words row) ws) (ranged l (words row) ws) h g (some_outside rs)
    where
      step : (x y : Bool) → (x || some (λ row. formed (words row) ws) rs) ≡ true → ((x && y) || some (good l ws) rs) ≡ false →
          (some (λ row. formed (words row) ws) rs ≡ true → some (good l ws) rs ≡ false → some outside rs ≡ true) → ((x && not y) || some outside rs) ≡ true
      step true true h g k = clash g
      step true false h g k = refl
      step false y h g k = k h g

-- RULE 2: NO WORD IS EMPTY

abbrev none : List ℕ → Bool
none w = eqb (length w) 0

or_none : (a b : Bool) → (a || b) ≡ false → b ≡ false
or_none true b h = clash h
or_none false b h = h

-- a byte in front of a line, by whether it is a space
module _ (x : ℕ) (l : List ℕ) where
  with_first : (t : Bool) → eqb x 32 ≡ t → words (x ∷ l) ≡ cond t ([] ∷ words l) (in_front x (words l))
  unfolding parts
  with_first t e = ap (λ t. cond t ([] ∷ words l) (in_front x (words l))) e

  front_rest : drop 1 (in_front x (words l)) ≡ drop 1 (words l)
  front_rest = ap (λ ps. drop 1 (in_front x ps)) (some_part 32 l) ∙ refl

-- a line without an empty word has a byte, and does not begin with a space
begins : (l : List ℕ) → some none (words l) ≡ false → (eqb (length l) 0 ≡ false) × (eqb (get_or l 0 0) 32 ≡ false)
unfolding parts
begins [] h = clash h
begins (x ∷ l) h = (ne_eqb (length (x ∷ l)) 0 (λ e. omega arith), step (eqb x 32) refl)
  where
    step : (t : Bool) → eqb x 32 ≡ t → t ≡ false
    step true e = clash (sym (ap (some none) (with_first x l true e)) ∙ h)
    step false e = refl

rest_none : (l : List ℕ) → some none (words l) ≡ false → some none (drop 1 (words l)) ≡ false
rest_none l h = or_none (none (first 32 l)) _ (sym (ap (some none) (some_part 32 l)) ∙ h)

-- where no word but the first is empty, no space is last, and none stands beside another
inside : (l : List ℕ) → some none (drop 1 (words l)) ≡ false → (ends_in_space l ≡ false) × (two_together l ≡ false)
unfolding parts ends_in_space two_together
inside [] h = (refl, refl)
inside (x ∷ []) h = (step (eqb x 32) refl, refl)
  where
    step : (t : Bool) → eqb x 32 ≡ t → t ≡ false
    step true e = clash (sym (ap (λ ws. some none (drop 1 ws)) (with_first x [] true e)) ∙ h)
    step false e = refl
inside (x ∷ y ∷ l) h = step (eqb x 32) refl (inside (y ∷ l))
  where
    step : (t : Bool) → eqb x 32 ≡ t → (some none (drop 1 (words (y ∷ l))) ≡ false → (ends_in_space (y ∷ l) ≡ false) × (two_together (y ∷ l) ≡ false)) → (ends_in_space (y ∷ l) ≡ false) × (((eqb x 32 && eqb y 32) || two_together (y ∷ l)) ≡ false)
    step true e k =
        let g : some none (words (y ∷ l)) ≡ false = sym (ap (λ ws. some none (drop 1 ws)) (with_first x (y ∷ l) true e)) ∙ h in
        let r = k (rest_none (y ∷ l) g) in
        (r.0, ap₂ (λ a b. (a && b) || two_together (y ∷ l)) e (begins (y ∷ l) g).1 ∙ r.1)
    step false e k =
        let g = sym (ap (λ ws. some none (drop 1 ws)) (with_first x (y ∷ l) false e) ∙ ap (some none) (front_rest x (y ∷ l))) ∙ h in
        let r = k g in
        (r.0, ap (λ a. (a && eqb y 32) || two_together (y ∷ l)) e ∙ r.1)

well_spaced : (l : List ℕ) → some none (words l) ≡ false → badly_spaced l ≡ false
well_spaced l h =
    let b = begins l h in
    let r = inside l (rest_none l h) in
    simp (b.0, b.1, r.0, r.1)

or_last : (a b c d : Bool) → d ≡ true → true ≡ (a || (b || (c || d)))
or_last true b c d h = refl
or_last false true c d h = refl
or_last false false true d h = refl
or_last false false false d h = sym h

-- a line is mangled exactly when one of the six holds
pub mangled_exactly : (l : Lengths) (line : List ℕ) → is_none (parse_of l line) ≡ one_holds l line
unfolding parse_of
mangled_exactly l line = step (too_long line)
  where
    -- a line that has a row's forms and is not good is outside a range
    unranged : (t : Bool) → some (λ row. formed (words row) (words line)) rows ≡ t → some (good l (words line)) rows ≡ false → (not t || out_of_range l line) ≡ true
    unranged true e h = some_outside l (words line) rows e h
    unranged false e h = refl

    fitting : (t : Bool) → some (good l (words line)) rows ≡ t →
        not t ≡ (badly_spaced line || (no_command line || (wrong_number line || (bad_form line || out_of_range l line))))
    fitting true e =
        simp (well_spaced line (rows_spaced l (words line) rows e), some_more _ _ (row_named l (words line)) rows e, some_more _ _ (row_counted l (words line)) rows e, some_more _ _ (row_formed l (words line)) rows e, none_outside l (words line) rows rows_apart e)
    fitting false e =
        or_last (badly_spaced line) (no_command line) (wrong_number line) (bad_form line || out_of_range l line) (unranged (some (λ row. formed (words row) (words line)) rows) refl e)

    step : (t : Bool) → is_none (cond t None (fit_rows l 0 rows (words line))) ≡ (t || (badly_spaced line || (no_command line || (wrong_number line || (bad_form line || out_of_range l line)))))
    step true = refl
    step false = rows_mangled l (words line) ∙ fitting (some (good l (words line)) rows) refl
