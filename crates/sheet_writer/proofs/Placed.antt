-- A text in a lent buffer. Assumes nothing.
use mathlib.Core.Path.{◌≡◌, sym, ap, ◌∙◌}
use mathlib.Core.Bool.{cond}
use mathlib.Core.List.{List, ◌++◌}
use Prim.Native.Nat.{ℕ, ◌≤◌, ◌<◌}
use native.Mathlib.Omega.{arith}
use lib.ListN.{length, drop}
use borrow.Author.Tests.{le-leb, lt-leb}
use Rattle.std.specs.Prelude.{Ok, Err}
use Rattle.tasks.specs.Refusals.{short}
use Rattle.sheet_writer.specs.Writing.{leaving, placed}

module _ (t b : List ℕ) (n : ℕ) (e : n ≡ length t) where
  pub placed_short : length b < n → leaving (Err (short n)) b ≡ placed t b
  placed_short h =
      ap (λ k. leaving (Err (short k)) b) e
      ∙ sym (ap (λ c. cond c (leaving (Ok (length t)) (t ++ drop (length t) b)) (leaving (Err (short (length t))) b)) (lt-leb (length t) (length b) (omega arith)))

  pub placed_fits : (d : List ℕ) → n ≤ length b → d ≡ t ++ drop n b → leaving (Ok n) d ≡ placed t b
  placed_fits d h f =
      ap (leaving (Ok n)) f ∙ ap (λ k. leaving (Ok k) (t ++ drop k b)) e
      ∙ sym (ap (λ c. cond c (leaving (Ok (length t)) (t ++ drop (length t) b)) (leaving (Err (short (length t))) b)) (le-leb (length t) (length b) (omega arith)))
