-- A line fits a row exactly when its words have their forms, and its numbers are in their ranges.
use Rattle.std.specs.Bool.{then_some}
use mathlib.Core.Bool.{Bool, true, false, not, ◌&&◌, ◌||◌, cond, and-true, and-false}
use mathlib.Core.List.{List, [], ◌∷◌}
use mathlib.Core.Path.{◌≡◌, refl, sym, ap, ap₂, ◌∙◌}
use Prim.Native.Nat.{ℕ, ◌+◌, ◌-◌, ◌/◌, ◌<◌, ◌≤◌, min}
use native.Mathlib.Numerals.{add-one}
use native.Mathlib.Omega.{arith}
use borrow.Author.Tests.{eqb-true, eqb-false, eq-eqb, ne_eqb, leb-true, le-leb, ltb-true, lt-ltb, not-true}
use lib.Dec.{eqb, leb, ltb, leb-zero, leb-suc-zero, leb-suc-suc}
use lib.ListN.{length, get_or}
use Rattle.commands.specs.declared.buffers.Lengths.{Lengths}
use Rattle.commands.specs.declared.forms.Values.{Values}
use Rattle.commands.specs.Texts.{bytes, parts}
use Rattle.std.specs.Prelude.{Option, Some, None, is_some, option_and_then, bytes_eq}
use Rattle.commands.specs.Words.{each, within, is_number, is_bytes, decimal, number_in, bytes_in}
use Rattle.commands.specs.Buffers.{text_most, length_of, most_of, buffer_of}
use Rattle.commands.specs.Forms.{asks_bytes, range_of, buffer_range_of, in_range, letter_value, value_of, kept, no_values}
use Rattle.commands.specs.Lines.{page, words, rows, fit}
use Rattle.commands.specs.Mangled.{has_form, formed, most_named, length_named, number_of, from_to, takes, each_number, ranged}

-- TRUTH VALUES

pub never : {A : Type 0} → ◌≡◌ {A = ℕ} 0 1 → A
never z = let n : ⊥ = omega arith in absurd n

pub clash : {A : Type 0} → ◌≡◌ {A = Bool} true false → A
clash h = never (ap (λ b. cond b 0 1) h)

pub and_left : (a b : Bool) → (a && b) ≡ true → a ≡ true
and_left true b h = refl
and_left false b h = h

pub and_right : (a b : Bool) → (a && b) ≡ true → b ≡ true
and_right true b h = h
and_right false b h = clash (sym h)

-- two pairs, sorted anew
and_pairs : (a b c d : Bool) → ((a && b) && (c && d)) ≡ ((a && c) && (b && d))
and_pairs true true c d = refl
and_pairs true false c d = sym (and-false c)
and_pairs false b c d = refl

same_truth : (a b : Bool) → (a ≡ true → b ≡ true) → (b ≡ true → a ≡ true) → a ≡ b
same_truth true b f g = sym (f refl)
same_truth false true f g = g refl
same_truth false false f g = refl

-- RANGES, AS THE PARSER HAS THEM AND AS THE PAGE HAS THEM

next : (n m : ℕ) → ltb n (m + 1) ≡ leb n m
next n m = rw add-one (leb-suc-suc n m)

sixteen : (n : ℕ) → (leb 16 n && ltb n 17) ≡ eqb n 16
sixteen n = same_truth _ _
    (λ h.
    let lo : 16 ≤ n = leb-true _ _ (and_left _ _ h) in
    let hi : n < 17 = ltb-true _ _ (and_right (leb 16 n) _ h) in
    eq-eqb n 16 (omega arith))
    (λ h. rw (eqb-true n 16 h))

-- n is at most both
least_left : (n a b c : ℕ) → (leb 1 n && ltb n (min a (b - c) + 1)) ≡ (from_to 1 a n && leb (c + n) b)
least_left n a b c = same_truth _ _
    (λ h.
    let lo : 1 ≤ n = leb-true _ _ (and_left _ _ h) in
    let hi : n < min a (b - c) + 1 = ltb-true _ _ (and_right (leb 1 n) _ h) in
    let p : n ≤ a = omega arith in
    let q : c + n ≤ b = omega arith in
    simp (le-leb _ _ lo, le-leb _ _ p, le-leb _ _ q))
    (λ h.
    let g = and_left _ _ h in
    let lo : 1 ≤ n = leb-true _ _ (and_left _ _ g) in
    let p : n ≤ a = leb-true _ _ (and_right (leb 1 n) _ g) in
    let q : c + n ≤ b = leb-true _ _ (and_right (from_to 1 a n) _ h) in
    let hi : n < min a (b - c) + 1 = omega arith in
    simp (le-leb _ _ lo, lt-ltb _ _ hi))

-- A VALUE IS FOUND

some_if : (b : Bool) (v : ℕ) → is_some (then_some b v) ≡ b
some_if true v = refl
some_if false v = refl

number_found : (lo end : ℕ) (w : List ℕ) (t : Bool) → within lo end (decimal w) ≡ t → is_some (number_in lo end w) ≡ (is_number w && t)
unfolding number_in
number_found lo end w t e = some_if _ _ ∙ ap (λ t. is_number w && t) e

-- bytes of which there is at least one
bytes_found : (lo end : ℕ) (w : List ℕ) (t : Bool) → within (lo + 1) end (length w / 2) ≡ t → is_some (bytes_in (lo + 1) end w) ≡ ((is_bytes w && ltb 0 (length w)) && t)
unfolding bytes_in
bytes_found lo end w t e = some_if _ _ ∙ ap (λ t. is_bytes w && t) e ∙ step (is_bytes w) t refl e
  where
    step : (x t' : Bool) → t ≡ t' → within (lo + 1) end (length w / 2) ≡ t' → (x && t') ≡ ((x && ltb 0 (length w)) && t')
    step false t' q h = refl
    step true false q h = sym (and-false (ltb 0 (length w)))
    step true true q h =
        let n : lo + 1 ≤ length w / 2 = leb-true _ _ (and_left _ _ h) in
        let p : 0 < length w = omega arith in
        sym (simp (lt-ltb _ _ p))

-- THE BUFFER THAT A WORD NAMES

named_as : (h : ℕ → ℕ) (b : List ℕ) (v : ℕ) → buffer_of b ≡ Some v →
    h v ≡ cond (bytes_eq b (bytes "table")) (h 0) (cond (bytes_eq b (bytes "work")) (h 1) (cond (bytes_eq b (bytes "file")) (h 2) (h 3)))
unfolding buffer_of
named_as h b v e = step (bytes_eq b (bytes "table")) (bytes_eq b (bytes "work")) (bytes_eq b (bytes "file")) (bytes_eq b (bytes "text")) e
  where
    step : (t w f x : Bool) → cond t (Some 0) (cond w (Some 1) (cond f (Some 2) (cond x (Some 3) None))) ≡ Some v →
        h v ≡ cond t (h 0) (cond w (h 1) (cond f (h 2) (h 3)))
    step true w f x e = let z : ◌≡◌ {A = ℕ} 0 v = cc in rw (← z)
    step false true f x e = let z : ◌≡◌ {A = ℕ} 1 v = cc in rw (← z)
    step false false true x e = let z : ◌≡◌ {A = ℕ} 2 v = cc in rw (← z)
    step false false false true e = let z : ◌≡◌ {A = ℕ} 3 v = cc in rw (← z)
    step false false false false e = never (cc)

named_most : (b : List ℕ) (v : ℕ) → buffer_of b ≡ Some v → most_of v ≡ most_named b
unfolding most_of most_named
named_most b v e = named_as most_of b v e

named_length : (l : Lengths) (b : List ℕ) (v : ℕ) → buffer_of b ≡ Some v → length_of l v ≡ length_named l b
unfolding length_of length_named
named_length l b v e = named_as (length_of l) b v e

-- A WORD IN A FORM

by_letter : (P : ℕ → Type 0) (k f : ℕ) → P k → ((f ≡ k → ⊥) → P f) → P f
by_letter P k f here other = step (eqb f k) refl
  where
    step : (t : Bool) → eqb f k ≡ t → P f
    step true e = rw (eqb-true f k e) here
    step false e = other (eqb-false f k e)

-- a place after the buffer's, and one after the offset's
abbrev after_buffer : ℕ → Bool
after_buffer f = eqb f 76 || (eqb f 79 || eqb f 67)

module _ (l : Lengths) (vs : Values) (b : List ℕ) (o : ℕ) where
  -- the values that a letter's range looks at are those of the words before
  record Knows (f : ℕ) : Type 0 where
    buffer : after_buffer f ≡ true → buffer_of b ≡ Some vs.first
    offset : eqb f 67 ≡ true → vs.second ≡ o

  abbrev Exact : List ℕ → ℕ → Type 0
  Exact w f = Knows f → leb 97 f ≡ false →
      is_some (in_range f (range_of l vs f) w) ≡ (cond (asks_bytes f) (is_bytes w && ltb 0 (length w)) (is_number w) && takes l b o f (number_of f w))

  letter_exactly : (w : List ℕ) (f : ℕ) → (f ≡ 85 → ⊥) → Exact w f
  unfolding range_of buffer_range_of asks_bytes takes
  letter_exactly w f nU =
      let d = decimal w in
      let at_most : (m : ℕ) → within 0 (m + 1) d ≡ from_to 0 m d = λ m. ap (λ t. leb 0 d && t) (next d m) in
      by_letter (Exact w) 73 f (λ k h. number_found 1 8 w _ (ap (λ t. leb 1 d && t) (next d 7))) (λ nI.
      by_letter (Exact w) 70 f (λ k h. number_found 0 2 w _ (at_most 1)) (λ nF.
      by_letter (Exact w) 66 f (λ k h. number_found 0 256 w _ (at_most 255)) (λ nB.
      by_letter (Exact w) 72 f (λ k h. number_found 0 65536 w _ (at_most 65535)) (λ nH.
      by_letter (Exact w) 87 f (λ k h. number_found 0 4294967296 w _ (at_most 4294967295)) (λ nW.
      by_letter (Exact w) 78 f (λ k h. bytes_found 15 17 w _ (sixteen (length w / 2))) (λ nN.
      by_letter (Exact w) 76 f (λ k h. number_found 0 _ w _ (at_most (most_of vs.first) ∙ ap (λ m. from_to 0 m d) (named_most b _ (k.buffer refl)))) (λ nL.
      by_letter (Exact w) 79 f (λ k h. number_found 0 _ w _ (ap (λ t. t && ltb d (length_of l vs.first)) (leb-zero d) ∙ ap (ltb d) (named_length l b _ (k.buffer refl)))) (λ nO.
      by_letter (Exact w) 67 f (λ k h. number_found 1 _ w _ (least_left d 256 (length_of l vs.first) vs.second ∙ ap₂ (λ m c. from_to 1 256 d && leb (c + d) m) (named_length l b _ (k.buffer refl)) (k.offset refl))) (λ nC.
      by_letter (Exact w) 84 f (λ k h. bytes_found 0 _ w _ (least_left (length w / 2) 125 text_most l.text)) (λ nT k h.
      simp (ne_eqb f 73 nI, ne_eqb f 70 nF, ne_eqb f 66 nB, ne_eqb f 72 nH, ne_eqb f 87 nW, ne_eqb f 78 nN, ne_eqb f 76 nL, ne_eqb f 79 nO, ne_eqb f 67 nC, ne_eqb f 84 nT, ne_eqb f 85 nU, h)
      (number_found 1 0 w false (ap (λ t. leb 1 d && t) (leb-suc-zero d) ∙ and-false (leb 1 d)))))))))))))

  -- a fixed word is no number
  fixed_taken : (f n : ℕ) → leb 97 f ≡ true → takes l b o f n ≡ true
  unfolding takes
  fixed_taken f n h =
      let off : (k : ℕ) → k < 97 → eqb f k ≡ false = λ k p. ne_eqb f k (λ e. omega (arith, leb-true 97 f h)) in
      simp (off 73 (omega arith), off 70 (omega arith), off 66 (omega arith), off 72 (omega arith), off 87 (omega arith), off 78 (omega arith), off 76 (omega arith), off 79 (omega arith), off 67 (omega arith), off 84 (omega arith), off 85 (omega arith), h)

  buffer_taken : (f n : ℕ) → f ≡ 85 → takes l b o f n ≡ true
  unfolding takes
  buffer_taken f n e = rw e

  value_exactly : (f w : List ℕ) → Knows (get_or f 0 0) → is_some (value_of l vs f w) ≡ (has_form f w && takes l b o (get_or f 0 0) (number_of (get_or f 0 0) w))
  unfolding value_of letter_value has_form
  value_exactly f w k = step (get_or f 0 0) k (leb 97 (get_or f 0 0)) (eqb (get_or f 0 0) 85) refl refl
    where
      step : (c : ℕ) → Knows c → (t u : Bool) → leb 97 c ≡ t → eqb c 85 ≡ u →
          is_some (cond t (then_some (bytes_eq f w) 0) (cond u (buffer_of w) (in_range c (range_of l vs c) w)))
          ≡ (cond t (bytes_eq f w) (cond u (is_some (buffer_of w)) (cond (asks_bytes c) (is_bytes w && ltb 0 (length w)) (is_number w))) && takes l b o c (number_of c w))
      step c k true u e g = rw (fixed_taken c (number_of c w) e) (some_if (bytes_eq f w) 0 ∙ sym (and-true (bytes_eq f w)))
      step c k false true e g = rw (buffer_taken c (number_of c w) (eqb-true c 85 g)) (sym (and-true (is_some (buffer_of w))))
      step c k false false e g = letter_exactly w c (eqb-false c 85 g) k e

-- A LINE BY A ROW

-- each word has its form and is in its range
abbrev suits : (ℕ → ℕ → Bool) → List (List ℕ) → List (List ℕ) → Bool
suits t fs ws = formed fs ws && each_number t fs ws

module _ (l : Lengths) (vs : Values) (place : ℕ) (t : ℕ → ℕ → Bool) where
  no_word : (f : List ℕ) (fs : List (List ℕ)) → is_some (fit l vs place (f ∷ fs) []) ≡ suits t (f ∷ fs) []
  unfolding fit formed
  no_word f fs = refl

  no_form : (ws : List (List ℕ)) → is_some (fit l vs place [] ws) ≡ suits t [] ws
  unfolding fit formed each_number
  no_form [] = refl
  no_form (w ∷ ws) = refl

  one_word : (f w : List ℕ) (fs ws : List (List ℕ)) → is_some (value_of l vs f w) ≡ (has_form f w && t (get_or f 0 0) (number_of (get_or f 0 0) w)) →
      ((v : ℕ) → value_of l vs f w ≡ Some v → is_some (fit l (kept vs place v) (place + 1) fs ws) ≡ suits t fs ws) →
      is_some (fit l vs place (f ∷ fs) (w ∷ ws)) ≡ suits t (f ∷ fs) (w ∷ ws)
  unfolding fit formed each_number
  one_word f w fs ws e k = step (value_of l vs f w) refl ∙ ap (λ x. x && suits t fs ws) e ∙ and_pairs (has_form f w) (t (get_or f 0 0) (number_of (get_or f 0 0) w)) (formed fs ws) (each_number t fs ws)
    where
      step : (x : Option ℕ) → value_of l vs f w ≡ x → is_some (option_and_then (λ v. fit l (kept vs place v) (place + 1) fs ws) x) ≡ (is_some x && suits t fs ws)
      step None g = refl
      step (Some v) g = k v g

-- a form that looks at no word before it
abbrev plain : List ℕ → Bool
plain f = not (after_buffer (get_or f 0 0))

module _ (l : Lengths) (b : List ℕ) (o : ℕ) where
  plain_knows : (vs : Values) (f : List ℕ) → plain f ≡ true → Knows l vs b o (get_or f 0 0)
  plain_knows vs f h = record {
    buffer = λ e. clash (sym e ∙ not-true _ h);
    offset = λ e. let g : after_buffer (get_or f 0 0) ≡ true = rw (eqb-true (get_or f 0 0) 67 e) in clash (sym g ∙ not-true _ h);
  }

  fit_plain : (vs : Values) (place : ℕ) (fs ws : List (List ℕ)) → each plain fs ≡ true → is_some (fit l vs place fs ws) ≡ suits (takes l b o) fs ws
  fit_plain vs place [] ws h = no_form l vs place (takes l b o) ws
  fit_plain vs place (f ∷ fs) [] h = no_word l vs place (takes l b o) f fs
  fit_plain vs place (f ∷ fs) (w ∷ ws) h =
      one_word l vs place (takes l b o) f w fs ws (value_exactly l vs b o f w (plain_knows vs f (and_left _ _ h)))
      (λ v e. fit_plain (kept vs place v) (place + 1) fs ws (and_right (plain f) _ h))

-- A ROW WITH A BUFFER: its second form; a count, if there is one, is the fourth, behind an offset

number_is : (lo end : ℕ) (w : List ℕ) (v : ℕ) → number_in lo end w ≡ Some v → v ≡ decimal w
unfolding number_in
number_is lo end w v e = step (is_number w && within lo end (decimal w)) e
  where
    step : (t : Bool) → then_some t (decimal w) ≡ Some v → v ≡ decimal w
    step true h = cc
    step false h = never (cc)

module _ (l : Lengths) (vs : Values) (f w : List ℕ) (v : ℕ) (e : value_of l vs f w ≡ Some v) where
  value_buffer : eqb (get_or f 0 0) 85 ≡ true → buffer_of w ≡ Some v
  unfolding value_of letter_value
  value_buffer h = rw (eqb-true (get_or f 0 0) 85 h) at e

  value_offset : eqb (get_or f 0 0) 79 ≡ true → v ≡ decimal w
  unfolding value_of letter_value range_of buffer_range_of asks_bytes
  value_offset h = number_is 0 (length_of l vs.first) w v (rw (eqb-true (get_or f 0 0) 79 h) at e)

abbrev is_count : List ℕ → Bool
is_count f = eqb (get_or f 0 0) 67

abbrev last_behind : List ℕ → List (List ℕ) → Bool
last_behind g [] = true
last_behind g (f ∷ []) = not (is_count f) || eqb (get_or g 0 0) 79
last_behind g (f ∷ h ∷ fs) = false

abbrev with_buffer : List (List ℕ) → Bool
with_buffer [] = false
with_buffer (f ∷ []) = false
with_buffer (f ∷ u ∷ []) = false
with_buffer (f ∷ u ∷ g ∷ fs) = plain f && (eqb (get_or u 0 0) 85 && (not (is_count g) && last_behind g fs))

module _ (l : Lengths) (b : List ℕ) (o v : ℕ) (named : buffer_of b ≡ Some v) where
  third_on : (g : List ℕ) (fs ws : List (List ℕ)) (n : ℕ) → (eqb (get_or g 0 0) 79 ≡ true → n ≡ o) → last_behind g fs ≡ true →
      is_some (fit l (record { first = v; second = n; third = 0 }) 3 fs ws) ≡ suits (takes l b o) fs ws
  third_on g [] ws n k h = no_form l _ 3 (takes l b o) ws
  third_on g (f ∷ []) [] n k h = no_word l _ 3 (takes l b o) f []
  third_on g (f ∷ []) (w ∷ ws) n k h =
      let vs : Values = record { first = v; second = n; third = 0 } in
      let knows : Knows l vs b o (get_or f 0 0) = record { buffer = λ e. named; offset = λ e. k (simp e at h) } in
      one_word l vs 3 (takes l b o) f w [] ws (value_exactly l vs b o f w knows) (λ m e. no_form l _ 4 (takes l b o) ws)
  third_on g (f ∷ x ∷ fs) ws n k h = clash (sym h)

  second_on : (g : List ℕ) (fs ws : List (List ℕ)) → decimal (get_or ws 0 []) ≡ o → not (is_count g) ≡ true → last_behind g fs ≡ true →
      is_some (fit l (record { first = v; second = 0; third = 0 }) 2 (g ∷ fs) ws) ≡ suits (takes l b o) (g ∷ fs) ws
  second_on g fs [] d c h = no_word l _ 2 (takes l b o) g fs
  second_on g fs (w ∷ ws) d c h =
      let vs : Values = record { first = v; second = 0; third = 0 } in
      let knows : Knows l vs b o (get_or g 0 0) = record { buffer = λ e. named; offset = λ e. clash (sym e ∙ not-true _ c) } in
      one_word l vs 2 (takes l b o) g w fs ws (value_exactly l vs b o g w knows)
      (λ n e. third_on g fs ws n (λ q. value_offset l vs g w n e q ∙ d) h)

fit_buffer : (l : Lengths) (fs ws : List (List ℕ)) → with_buffer fs ≡ true → is_some (fit l no_values 0 fs ws) ≡ (formed fs ws && ranged l fs ws)
fit_buffer l [] ws h = clash (sym h)
fit_buffer l (f ∷ []) ws h = clash (sym h)
fit_buffer l (f ∷ u ∷ []) ws h = clash (sym h)
fit_buffer l (f ∷ u ∷ g ∷ fs) [] h = no_word l no_values 0 (takes l [] (decimal [])) f (u ∷ g ∷ fs)
fit_buffer l (f ∷ u ∷ g ∷ fs) (w ∷ []) h =
    let t = takes l [] (decimal []) in
    one_word l no_values 0 t f w (u ∷ g ∷ fs) [] (value_exactly l no_values [] (decimal []) f w (plain_knows l [] (decimal []) no_values f (and_left _ _ h)))
    (λ v e. no_word l no_values 1 t u (g ∷ fs))
fit_buffer l (f ∷ u ∷ g ∷ fs) (w ∷ b ∷ ws) h =
    let o = decimal (get_or ws 0 []) in
    let t = takes l b o in
    let r = and_right (plain f) _ h in
    let q = and_right (eqb (get_or u 0 0) 85) _ r in
    let p : plain u ≡ true = rw (eqb-true (get_or u 0 0) 85 (and_left _ _ r)) in
    one_word l no_values 0 t f w (u ∷ g ∷ fs) (b ∷ ws) (value_exactly l no_values b o f w (plain_knows l b o no_values f (and_left _ _ h)))
    (λ v₀ e₀. one_word l no_values 1 t u b (g ∷ fs) ws (value_exactly l no_values b o u b (plain_knows l b o no_values u p))
    (λ v e. second_on l b o v (value_buffer l no_values u b v e (and_left _ _ r)) g fs ws refl (and_left _ _ q) (and_right (not (is_count g)) _ q)))

-- every row of the page is so made
abbrev pub well_made : List (List ℕ) → Bool
well_made fs = each plain fs || with_buffer fs

pub fit_exactly : (l : Lengths) (fs ws : List (List ℕ)) → well_made fs ≡ true → is_some (fit l no_values 0 fs ws) ≡ (formed fs ws && ranged l fs ws)
fit_exactly l fs ws h = step (each plain fs) refl h
  where
    step : (t : Bool) → each plain fs ≡ t → (t || with_buffer fs) ≡ true → is_some (fit l no_values 0 fs ws) ≡ (formed fs ws && ranged l fs ws)
    step true e g = fit_plain l (get_or ws 1 []) (decimal (get_or ws 2 [])) no_values 0 fs ws e
    step false e g = fit_buffer l fs ws g

pub rows_made : each (λ row. well_made (words row)) rows ≡ true
unfolding page parts
rows_made = refl
