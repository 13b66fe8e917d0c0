-- A command that is taken leaves each buffer's length at most its most.
use mathlib.Core.Bool.{Bool, true, false, ◌||◌, cond}
use mathlib.Core.List.{List}
use mathlib.Core.Path.{◌≡◌, refl}
use Prim.Native.Nat.{ℕ, ◌+◌, ◌^◌, ◌≤◌}
use native.Mathlib.Nat.{mod-le}
use native.Mathlib.Omega.{arith}
use borrow.Author.Tests.{eqb-true, eqb-false, ne_eqb, le-ltb}
use lib.Dec.{eqb, leb}
use lib.ListN.{take, length-drop}
use Rattle.commands.specs.declared.forms.Values.{Values}
use Rattle.commands.specs.declared.lines.Command.{Command}
use Rattle.commands.specs.Buffers.{table_most, file_most, text_most, most_of}
use Rattle.commands.specs.Buffers as buffer
use Rattle.commands.specs.Kinds as kind
use Rattle.commands.specs.Taken.{Within}
use Rattle.tasks.specs.declared.sets.Set.{Set}
use Rattle.tasks.proofs.Valid.{passed_valid}
use Rattle.std.specs.Prelude.{Result, Ok, Err}
use Rattle.tasks.specs.declared.refusals.Refusal.{Refusal}
use Rattle.table_file.specs.Files.{header_length}
use Rattle.table_file.specs.Open.{open_of, part_of, handed}
use Rattle.table_file.proofs.Opening.{opening}
use Rattle.desk_buffers.specs.Buffers.{Buffers, length_after, buffers_after}
use Rattle.desk.specs.After.{opened_length, built, written, opened, printed, tables_after, Held, held_over, no_desk, set_held, run_held, buffer_held, tables_held, command_after}
use Rattle.desk.specs.Fitted.{Fitted}

-- ONE BUFFER

length_fits : (k : ℕ) (vs : Values) (n m : ℕ) → (k ≡ kind.fill → vs.second ≤ m) → (k ≡ kind.cut → vs.second ≤ m) → n ≤ m → length_after k vs n ≤ m
unfolding length_after
length_fits k vs n m p q h = step (eqb k kind.fill) (eqb k kind.cut) refl refl
  where
    step : (t u : Bool) → eqb k kind.fill ≡ t → eqb k kind.cut ≡ u → cond (t || u) vs.second n ≤ m
    step true u e g = p (eqb-true k kind.fill e)
    step false true e g = q (eqb-true k kind.cut g)
    step false false e g = h

most_table : (b : ℕ) → b ≡ buffer.table → most_of b ≡ table_most
unfolding most_of
most_table b e = rw e

most_work : (b : ℕ) → b ≡ buffer.work → most_of b ≡ table_most
unfolding most_of
most_work b e = rw e

most_file : (b : ℕ) → b ≡ buffer.file → most_of b ≡ file_most
unfolding most_of
most_file b e = rw e

most_text : (b : ℕ) → (b ≡ buffer.table → ⊥) → (b ≡ buffer.work → ⊥) → (b ≡ buffer.file → ⊥) → most_of b ≡ text_most
unfolding most_of
most_text b p q r =
    let h : buffer.file ≤ b = omega arith in
    simp (le-ltb b buffer.file h, ne_eqb b buffer.file r)

-- THE FOUR

module _ (c : Command) (line : List ℕ) (b : Buffers) (w : Within b.lengths c) (f : Fitted b.lengths) where
  abbrev k : ℕ
  k = c.kind

  abbrev vs : Values
  vs = c.values

  fits : (n m : ℕ) → most_of vs.first ≡ m → n ≤ m → length_after k vs n ≤ m
  fits n m e h = length_fits k vs n m (λ p. omega (arith, w.filled p)) (λ p. omega (arith, w.cut p)) h

  buffers_fitted : Fitted (buffers_after k vs line b).lengths
  unfolding buffers_after
  buffers_fitted = step (eqb k kind.text) (eqb vs.first buffer.table) (eqb vs.first buffer.work) (eqb vs.first buffer.file) refl refl refl refl
    where
      step : (a t u v : Bool) → eqb k kind.text ≡ a → eqb vs.first buffer.table ≡ t → eqb vs.first buffer.work ≡ u → eqb vs.first buffer.file ≡ v → Fitted (buffers_after k vs line b).lengths
      step true t u v p q r s = rw p (record { table = f.table; work = f.work; file = f.file; text = omega (arith, mod-le (b.lengths.text + vs.first) (2 ^ 32), w.added (eqb-true k kind.text p)) })
      step false true u v p q r s = rw (p, q) (record { table = fits b.lengths.table table_most (most_table _ (eqb-true _ buffer.table q)) f.table; work = f.work; file = f.file; text = f.text })
      step false false true v p q r s = rw (p, q, r) (record { table = f.table; work = fits b.lengths.work table_most (most_work _ (eqb-true _ buffer.work r)) f.work; file = f.file; text = f.text })
      step false false false true p q r s = rw (p, q, r, s) (record { table = f.table; work = f.work; file = fits b.lengths.file file_most (most_file _ (eqb-true _ buffer.file s)) f.file; text = f.text })
      step false false false false p q r s =
          rw (p, q, r, s) (record { table = f.table; work = f.work; file = f.file; text = fits b.lengths.text text_most (most_text _ (eqb-false _ buffer.table q) (eqb-false _ buffer.work r) (eqb-false _ buffer.file s)) f.text })

-- TABLE AND FILE

-- what a file that opens hands back is a table of at most 60,000 bytes
opened_fits : (s : Set) (file : List ℕ) (n : ℕ) → n ≤ table_most → opened_length (open_of s file) (handed s file) n ≤ table_most
opened_fits s file n h = step (open_of s file) refl
  where
    step : (o : Result Unit Refusal) → open_of s file ≡ o → opened_length o (part_of s file o) n ≤ table_most
    step (Ok u) e =
        let v = opening s file e in
        omega (arith, v.long, length-drop (header_length s) file, (passed_valid s v.set).states)
    step (Err r) e = h

tables_fitted : (b : Buffers) (s : Set) (k : ℕ) → Fitted b.lengths → Fitted (tables_after b s k).lengths
unfolding tables_after
tables_fitted b s k f = step (eqb k kind.build) (eqb k kind.test_table) (eqb k kind.write) (eqb k kind.open_file)
  where
    step : (t u v x : Bool) → Fitted (cond t (built b s) (cond u b (cond v (written b s) (cond x (opened b s) (printed b))))).lengths
    step true u v x = f
    step false true v x = f
    step false false true x = f
    step false false false true = record { table = opened_fits s (take b.lengths.file b.file) b.lengths.table f.table; work = f.work; file = f.file; text = f.text }
    step false false false false = f

-- ALL

-- a command that is taken leaves every length at most its most
pub command_fitted : (c : Command) (line : List ℕ) (h : Held) → Within h.buffers.lengths c → Fitted h.buffers.lengths → Fitted (command_after c.kind c.values line h).buffers.lengths
unfolding command_after
command_fitted c line h w f = step (eqb c.kind kind.reset) (leb c.kind kind.text) (leb c.kind kind.test_set) (leb c.kind kind.print)
  where
    step : (t u v x : Bool) →
        Fitted
        (cond t (held_over no_desk h.buffers.table h.buffers.work h.buffers.file h.buffers.text)
        (cond u (buffer_held c.kind c.values line h)
        (cond v (set_held c.kind c.values line h)
        (cond x (tables_held c.kind c.values line h) (run_held c.kind c.values line h))))).buffers.lengths
    step true u v x = record { table = omega arith; work = omega arith; file = omega arith; text = omega arith }
    step false true v x = buffers_fitted c line h.buffers w f
    step false false true x = f
    step false false false true = tables_fitted h.buffers h.set c.kind f
    step false false false false = f
