-- A line by a row: the word that ends at `end` and the form that ends at `stop`.
use mathlib.Core.List.{List, [], ◌∷◌}
use mathlib.Core.Path.{◌≡◌, refl, sym, ◌∙◌}
use Prim.Native.Nat.{ℕ, ◌+◌, ◌-◌, ◌<◌, ◌≤◌}
use mathlib.Core.Bool.{Bool, true, false}
use Rattle.std.specs.Bool.{then_some}
use borrow.Author.Tests.{eqb-true, eqb-false}
use native.Mathlib.Omega.{arith}
use lib.Dec.{eqb}
use lib.ListN.{length, take, drop}
use Rattle.std.proofs.lemmas.List.{take_rest}
use Rattle.commands.specs.declared.buffers.Lengths.{Lengths}
use Rattle.commands.specs.declared.forms.Values.{Values}
use Rattle.commands.specs.Texts.{index_of, parts}
use Rattle.std.specs.Prelude.{Option, Some, None}
use Rattle.commands.specs.declared.lines.Command.{Command}
use Rattle.commands.specs.Forms.{value_of, kept, no_values}
use Rattle.commands.specs.Lines.{fit, fit_rows}
use Rattle.commands.proofs.TextLaws.{some_part, parts_first, parts_last, parts_more}

-- where the words are split off, one step of the fit
module _ (l : Lengths) (vs : Values) (place : ℕ) (f w : List ℕ) (fs ws : List (List ℕ)) where
  no_value : value_of l vs f w ≡ None → fit l vs place (f ∷ fs) (w ∷ ws) ≡ None
  unfolding fit
  no_value e = rw e

  a_value : (v : ℕ) → value_of l vs f w ≡ Some v → fit l vs place (f ∷ fs) (w ∷ ws) ≡ fit l (kept vs place v) (place + 1) fs ws
  unfolding fit
  a_value v e = rw e

fit_done : (l : Lengths) (vs : Values) (place : ℕ) → fit l vs place [] [] ≡ Some vs
unfolding fit
fit_done l vs place = refl

few : (l : Lengths) (vs : Values) (place : ℕ) (row : List ℕ) → fit l vs place (parts 32 row) [] ≡ None
unfolding fit
few l vs place row = rw (some_part 32 row)

many : (l : Lengths) (vs : Values) (place : ℕ) (line : List ℕ) → fit l vs place [] (parts 32 line) ≡ None
unfolding fit
many l vs place line = rw (some_part 32 line)

-- x is the value of the word, and next the values with it
module _ (l : Lengths) (vs : Values) (place : ℕ) (row line : List ℕ) (stop end : ℕ) (form : stop ≡ index_of 32 row) (word : end ≡ index_of 32 line)
    (x : Option ℕ) (found : x ≡ value_of l vs (take stop row) (take end line)) where
  pub fit_nothing : x ≡ None → fit l vs place (parts 32 row) (parts 32 line) ≡ None
  fit_nothing e =
      rw (parts_first 32 row stop form, parts_first 32 line end word) (no_value l vs place _ _ _ _ (sym found ∙ e))

  module _ (v : ℕ) (e : x ≡ Some v) (next : Values) (keeps : next ≡ kept vs place v) where
    fit_whole : end ≡ length line → stop ≡ length row → fit l vs place (parts 32 row) (parts 32 line) ≡ Some next
    fit_whole p q =
        rw (keeps, parts_last 32 row stop form q, parts_last 32 line end word p)
        (a_value l vs place _ _ _ _ v (sym found ∙ e) ∙ fit_done l _ _)

    fit_few : end ≡ length line → stop < length row → fit l vs place (parts 32 row) (parts 32 line) ≡ None
    fit_few p q =
        rw (parts_more 32 row stop form q, parts_last 32 line end word p)
        (a_value l vs place _ _ _ _ v (sym found ∙ e) ∙ few l _ _ _)

    pub fit_last : end ≡ length line → stop ≤ length row → fit l vs place (parts 32 row) (parts 32 line) ≡ then_some (eqb stop (length row)) next
    fit_last p q = step (eqb stop (length row)) refl
      where
        step : (t : Bool) → eqb stop (length row) ≡ t → fit l vs place (parts 32 row) (parts 32 line) ≡ then_some t next
        step true h = fit_whole p (eqb-true stop (length row) h)
        step false h = fit_few p (omega (arith, eqb-false stop (length row) h))

    pub fit_many : end < length line → stop ≡ length row → fit l vs place (parts 32 row) (parts 32 line) ≡ None
    fit_many p q =
        rw (parts_last 32 row stop form q, parts_more 32 line end word p)
        (a_value l vs place _ _ _ _ v (sym found ∙ e) ∙ many l _ _ _)

    pub fit_on : end < length line → stop < length row → (r : Option Values) →
        r ≡ fit l next (place + 1) (parts 32 (take (length row - (stop + 1)) (drop (stop + 1) row))) (parts 32 (take (length line - (end + 1)) (drop (end + 1) line))) → r ≡ fit l vs place (parts 32 row) (parts 32 line)
    fit_on p q r h =
        rw (parts_more 32 row stop form q, parts_more 32 line end word p)
        (h ∙ rw (take_rest row (stop + 1), take_rest line (end + 1), keeps) (sym (a_value l vs place _ _ _ _ v (sym found ∙ e))))

-- the first row of a page, which ends at `stop`; x is what the line says by it
module _ (l : Lengths) (kind : ℕ) (page line : List ℕ) (stop : ℕ) (found : stop ≡ index_of 10 page)
    (x : Option Values) (tried : x ≡ fit l no_values 0 (parts 32 (take stop page)) (parts 32 line)) where
  pub row_fits : (vs : Values) → x ≡ Some vs → fit_rows l kind (parts 10 page) (parts 32 line) ≡ Some (record { kind = kind; values = vs })
  unfolding fit_rows
  row_fits vs e = rw (parts_first 10 page stop found, sym tried ∙ e)

  module _ (e : x ≡ None) where
    pub row_last : stop ≡ length page → fit_rows l kind (parts 10 page) (parts 32 line) ≡ None
    unfolding fit_rows
    row_last q = rw (parts_last 10 page stop found q, sym tried ∙ e)

    pub row_on : stop < length page → (r : Option Command) →
        r ≡ fit_rows l (kind + 1) (parts 10 (take (length page - (stop + 1)) (drop (stop + 1) page))) (parts 32 line) → r ≡ fit_rows l kind (parts 10 page) (parts 32 line)
    unfolding fit_rows
    row_on q r h = rw (parts_more 10 page stop found q, sym tried ∙ e) (h ∙ rw (take_rest page (stop + 1)) refl)
