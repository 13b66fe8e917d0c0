-- The words that modes name. Assumes nothing.
use mathlib.Core.Bool.{Bool, true, false, cond}
use Prim.Native.Nat.{ℕ, ◌≤◌}
use native.Mathlib.Omega.{arith}
use lib.Dec.{eqb}
use lib.ListN.{length}
use Rattle.sheet_form.specs.Form.{set_text, kind_text}
use Rattle.sheet_form.proofs.Lengths.{kind_length}
use Rattle.sheet_scan.specs.Steps.{word_at}

pub word_short : (m : ℕ) → length (word_at m) ≤ 5
word_short m = go (eqb m 0)
  where
    go : (b : Bool) → length (cond b set_text (kind_text (eqb m 1))) ≤ 5
    go true = omega arith
    go false = omega (arith, kind_length (eqb m 1))
