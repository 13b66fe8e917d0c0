-- A command that is taken asks for no byte that its buffer does not have, and for no length beyond its most.
use Rattle.std.specs.Bool.{then_some}
use mathlib.Core.Bool.{Bool, true, false, ◌&&◌, cond}
use mathlib.Core.List.{List, [], ◌∷◌}
use mathlib.Core.Path.{◌≡◌, refl, ap}
use Prim.Native.Nat.{ℕ, suc, ◌+◌, ◌-◌, ◌/◌, ◌<◌, ◌≤◌, min}
use native.Mathlib.Omega.{arith}
use borrow.Author.Tests.{leb-true, ltb-true}
use lib.Dec.{leb, ltb}
use lib.ListN.{length, get_or}
use Rattle.commands.specs.declared.buffers.Lengths.{Lengths}
use Rattle.commands.specs.declared.forms.Values.{Values}
use Rattle.commands.specs.declared.lines.Command.{Command}
use Rattle.commands.specs.Texts.{bytes, parts}
use Rattle.std.specs.Prelude.{Option, Some, None, option_and_then}
use Rattle.commands.specs.Words.{within, is_number, is_bytes, decimal, number_in, bytes_in}
use Rattle.commands.specs.Buffers.{text_most, length_of, most_of}
use Rattle.commands.specs.Forms.{asks_bytes, range_of, buffer_range_of, letter_value, value_of, kept, no_values}
use Rattle.commands.specs.Kinds as kind
use Rattle.commands.specs.Lines.{page, words, rows, fit, taken_or, fit_rows, parse_of}
use Rattle.commands.specs.Mangled.{too_long}
use Rattle.commands.specs.Taken.{Within}
use Rattle.commands.proofs.Ranges.{never, and_left, and_right}

-- A WORD OF A ROW THAT FITS

module _ (l : Lengths) where
  -- the word's value, and the rest of the row
  record Next (vs : Values) (place : ℕ) (f : List ℕ) (fs : List (List ℕ)) (r : Values) : Type 0 where
    word : List ℕ
    rest : List (List ℕ)
    value : ℕ
    found : value_of l vs f word ≡ Some value
    goes_on : fit l (kept vs place value) (place + 1) fs rest ≡ Some r

  next : (vs : Values) (place : ℕ) (f : List ℕ) (fs ws : List (List ℕ)) (r : Values) → fit l vs place (f ∷ fs) ws ≡ Some r → Next vs place f fs r
  unfolding fit
  next vs place f fs [] r e = never (cc)
  next vs place f fs (w ∷ ws) r e = step (value_of l vs f w) refl e
    where
      step : (x : Option ℕ) → value_of l vs f w ≡ x → option_and_then (λ v. fit l (kept vs place v) (place + 1) fs ws) x ≡ Some r → Next vs place f fs r
      step None g h = never (cc)
      step (Some v) g h = record { word = w; rest = ws; value = v; found = g; goes_on = h }

  ended : (vs : Values) (place : ℕ) (ws : List (List ℕ)) (r : Values) → fit l vs place [] ws ≡ Some r → vs ≡ r
  unfolding fit
  ended vs place [] r e = cc
  ended vs place (w ∷ ws) r e = never (cc)

  -- the third word, behind that of the buffer
  record Behind (f : List ℕ) (fs : List (List ℕ)) (r : Values) : Type 0 where
    buffer : ℕ
    third : Next (record { first = buffer; second = 0; third = 0 }) 2 f fs r

  behind : (x u f : List ℕ) (fs ws : List (List ℕ)) (r : Values) → fit l no_values 0 (x ∷ u ∷ f ∷ fs) ws ≡ Some r → Behind f fs r
  behind x u f fs ws r e =
      let a = next no_values 0 x (u ∷ f ∷ fs) ws r e in
      let b = next no_values 1 u (f ∷ fs) a.rest r a.goes_on in
      record { buffer = b.value; third = next _ 2 f fs b.rest r b.goes_on }

-- A VALUE IN ITS RANGE

found_within : (t : Bool) (lo end n v : ℕ) → then_some (t && within lo end n) n ≡ Some v → (lo ≤ v) × (v < end)
found_within t lo end n v e = step (t && within lo end n) refl e
  where
    step : (u : Bool) → (t && within lo end n) ≡ u → then_some u n ≡ Some v → (lo ≤ v) × (v < end)
    step true h g =
        let z : n ≡ v = cc in
        let w = and_right t (within lo end n) h in
        let p : lo ≤ n = leb-true lo n (and_left (leb lo n) (ltb n end) w) in
        let q : n < end = ltb-true n end (and_right (leb lo n) (ltb n end) w) in
        (omega arith, omega arith)
    step false h g = never (cc)

-- THE ROW OF A COMMAND

module _ (l : Lengths) (ws : List (List ℕ)) (c : Command) where
  row_taken : (k : ℕ) (rs : List (List ℕ)) → fit_rows l k rs ws ≡ Some c → (k ≤ c.kind) × (fit l no_values 0 (words (get_or rs (c.kind - k) [])) ws ≡ Some c.values)
  unfolding fit_rows
  row_taken k [] e = never (cc)
  row_taken k (row ∷ rs) e = step (fit l no_values 0 (words row) ws) refl e (row_taken (k + 1) rs)
    where
      step : (x : Option Values) → fit l no_values 0 (words row) ws ≡ x → taken_or k x (fit_rows l (k + 1) rs ws) ≡ Some c →
          (fit_rows l (k + 1) rs ws ≡ Some c → (k + 1 ≤ c.kind) × (fit l no_values 0 (words (get_or rs (c.kind - (k + 1)) [])) ws ≡ Some c.values)) →
          (k ≤ c.kind) × (fit l no_values 0 (words (get_or (row ∷ rs) (c.kind - k) [])) ws ≡ Some c.values)
      step (Some vs) g h rec =
          let z : ◌≡◌ {A = Command} (record { kind = k; values = vs }) c = cc in
          let p : k ≡ c.kind = ap (λ x. x.kind) z in
          let q : c.kind - k ≡ 0 = omega arith in
          let w : vs ≡ c.values = ap (λ x. x.values) z in
          (omega arith, rw (q, ← w) g)
      step None g h rec =
          let r = rec h in
          let q : c.kind - k ≡ suc (c.kind - (k + 1)) = omega (arith, r.0) in
          (omega (arith, r.0), rw q r.1)

module _ (l : Lengths) (line : List ℕ) (c : Command) (e : parse_of l line ≡ Some c) where
  taken_row : (k : ℕ) (fs : List (List ℕ)) → c.kind ≡ k → words (get_or rows k []) ≡ fs → fit l no_values 0 fs (words line) ≡ Some c.values
  unfolding parse_of
  taken_row k fs p q = step (too_long line) e
    where
      step : (t : Bool) → cond t None (fit_rows l 0 rows (words line)) ≡ Some c → fit l no_values 0 fs (words line) ≡ Some c.values
      step true h = never (cc)
      step false h =
          let z : c.kind - 0 ≡ k = omega arith in
          rw (z, q) at (row_taken l (words line) c 0 rows h).1

-- WHAT THE WORD IN A PLACE SAYS

module _ (l : Lengths) (vs : Values) (w : List ℕ) (v : ℕ) where
  offset_within : value_of l vs (bytes "O") w ≡ Some v → v < length_of l vs.first
  unfolding value_of letter_value range_of buffer_range_of asks_bytes number_in
  offset_within e = (found_within (is_number w) 0 (length_of l vs.first) (decimal w) v e).1

  count_within : value_of l vs (bytes "C") w ≡ Some v → vs.second + v ≤ length_of l vs.first
  unfolding value_of letter_value range_of buffer_range_of asks_bytes number_in
  count_within e =
      let r = found_within (is_number w) 1 (min 256 (length_of l vs.first - vs.second) + 1) (decimal w) v e in
      omega (arith, r.0, r.1)

  length_within : value_of l vs (bytes "L") w ≡ Some v → v ≤ most_of vs.first
  unfolding value_of letter_value range_of buffer_range_of asks_bytes number_in
  length_within e =
      let r = found_within (is_number w) 0 (most_of vs.first + 1) (decimal w) v e in
      omega (arith, r.1)

  text_within : value_of l vs (bytes "T") w ≡ Some v → l.text + v ≤ text_most
  unfolding value_of letter_value range_of buffer_range_of asks_bytes bytes_in
  text_within e =
      let r = found_within (is_bytes w) 1 (min 125 (text_most - l.text) + 1) (length w / 2) v e in
      omega (arith, r.0, r.1)

-- THE ROWS OF THE COMMANDS ON BUFFERS

module _ (l : Lengths) (ws : List (List ℕ)) (r : Values) where
  show_fits : fit l no_values 0 (bytes "show" ∷ bytes "U" ∷ bytes "O" ∷ bytes "C" ∷ []) ws ≡ Some r → r.second + r.third ≤ length_of l r.first
  show_fits e =
      let o = (behind l _ _ _ _ ws r e).third in
      let n = next l _ 3 _ _ _ r o.goes_on in
      rw (← ended l _ 4 _ r n.goes_on) (count_within l _ n.word n.value n.found)

  poke_fits : fit l no_values 0 (bytes "poke" ∷ bytes "U" ∷ bytes "O" ∷ bytes "B" ∷ []) ws ≡ Some r → r.second < length_of l r.first
  poke_fits e =
      let o = (behind l _ _ _ _ ws r e).third in
      let n = next l _ 3 _ _ _ r o.goes_on in
      rw (← ended l _ 4 _ r n.goes_on) (offset_within l _ o.word o.value o.found)

  fill_fits : fit l no_values 0 (bytes "fill" ∷ bytes "U" ∷ bytes "L" ∷ bytes "B" ∷ []) ws ≡ Some r → r.second ≤ most_of r.first
  fill_fits e =
      let o = (behind l _ _ _ _ ws r e).third in
      let n = next l _ 3 _ _ _ r o.goes_on in
      rw (← ended l _ 4 _ r n.goes_on) (length_within l _ o.word o.value o.found)

  cut_fits : fit l no_values 0 (bytes "cut" ∷ bytes "U" ∷ bytes "L" ∷ []) ws ≡ Some r → r.second ≤ most_of r.first
  cut_fits e =
      let o = (behind l _ _ _ _ ws r e).third in
      rw (← ended l _ 3 _ r o.goes_on) (length_within l _ o.word o.value o.found)

  text_fits : fit l no_values 0 (bytes "text" ∷ bytes "T" ∷ []) ws ≡ Some r → l.text + r.first ≤ text_most
  text_fits e =
      let a = next l no_values 0 _ _ ws r e in
      let n = next l no_values 1 _ _ _ r a.goes_on in
      rw (← ended l _ 2 _ r n.goes_on) (text_within l _ n.word n.value n.found)

fill_row : words (get_or rows kind.fill []) ≡ bytes "fill" ∷ bytes "U" ∷ bytes "L" ∷ bytes "B" ∷ []
unfolding page parts
fill_row = refl

cut_row : words (get_or rows kind.cut []) ≡ bytes "cut" ∷ bytes "U" ∷ bytes "L" ∷ []
unfolding page parts
cut_row = refl

poke_row : words (get_or rows kind.poke []) ≡ bytes "poke" ∷ bytes "U" ∷ bytes "O" ∷ bytes "B" ∷ []
unfolding page parts
poke_row = refl

show_row : words (get_or rows kind.show []) ≡ bytes "show" ∷ bytes "U" ∷ bytes "O" ∷ bytes "C" ∷ []
unfolding page parts
show_row = refl

text_row : words (get_or rows kind.text []) ≡ bytes "text" ∷ bytes "T" ∷ []
unfolding page parts
text_row = refl

pub taken_within : (l : Lengths) (line : List ℕ) (c : Command) → parse_of l line ≡ Some c → Within l c
taken_within l line c e = record {
  filled = λ k. fill_fits l (words line) c.values (taken_row l line c e kind.fill _ k fill_row);
  cut = λ k. cut_fits l (words line) c.values (taken_row l line c e kind.cut _ k cut_row);
  poked = λ k. poke_fits l (words line) c.values (taken_row l line c e kind.poke _ k poke_row);
  shown = λ k. show_fits l (words line) c.values (taken_row l line c e kind.show _ k show_row);
  added = λ k. text_fits l (words line) c.values (taken_row l line c e kind.text _ k text_row);
}
