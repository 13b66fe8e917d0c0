-- The report of what the reader and the builder answered. Assumes nothing.
use mathlib.Core.Path.{◌≡◌, sym, ap, ◌∙◌, subst}
use mathlib.Core.Logic.{⊎_elim}
use mathlib.Core.Bool.{Bool, true, false, cond}
use mathlib.Core.List.{List, [], ◌++◌, append-nil}
use Prim.Native.Nat.{ℕ, ◌+◌, ◌/◌, ◌^◌, ◌≤◌, ◌<◌}
use native.Mathlib.Omega.{arith}
use lib.Dec.{ltb}
use lib.ListN.{length, drop, get_or, length-append, get_or-eq_default}
use borrow.Author.Tests.{lt-ltb, le-ltb, le-leb, lt-leb}
use Rattle.arena.specs.Arena.{shield}
use Rattle.arena.proofs.Tests.{lt_or_le}
use Rattle.std.specs.Prelude.{Result, Ok, Err}
use Rattle.tasks.specs.declared.refusals.Refusal.{Refusal}
use Rattle.tasks.specs.declared.sets.Set.{Set}
use Rattle.tasks.specs.Refusals.{number_of, short}
use Rattle.tasks.specs.Sets.{states_of}
use Rattle.tasks.proofs.Valid.{passed_valid}
use Rattle.game.specs.Game.{arena_of}
use Rattle.shield.specs.declared.builder.Built.{Built}
use Rattle.shield.specs.Entries.{entry_of}
use Rattle.shield.specs.Shield.{shield_table}
use Rattle.shield.specs.Build.{build_of, Builds}
use Rattle.shield.proofs.EntryLaws.{marks_lt, list_length, list_at}
use Rattle.shield.proofs.Done.{Finished, done_finished, few}
use Rattle.sheet_reader.specs.declared.SheetRead.{SheetRead}
use Rattle.sheet_reader.specs.Reading.{read_text}
use Rattle.texts.specs.Puts.{Puts}
use Rattle.texts.proofs.PutLaws.{puts_whole}
use Rattle.report_lines.proofs.Lengths.{Short, set_length, shield_length, rows_length, refused_length}
use Rattle.report_lines.specs.Lines.{row_lines, rows_text, refused_line}
use Rattle.reporter.specs.Report.{Told, built_text, told_built, told_read, told_of, room, Left, leaving, placed, report_of, Tells}

pub table_length : (s : Set) → length (shield_table s) ≡ states_of s
table_length s = list_length (λ i. entry_of (shield (arena_of s) i)) (states_of s)

-- an entry has at most three digits
entries_short : (s : Set) → Short (shield_table s)
entries_short s i = ⊎_elim inside beyond (lt_or_le i (states_of s))
  where
    inside : i < states_of s → get_or (shield_table s) i 0 < 10 ^ 3
    inside h =
        let e : get_or (shield_table s) i 0 ≡ entry_of (shield (arena_of s) i) = ap (λ l. get_or l i 0) (sym (append-nil (shield_table s))) ∙ list_at (λ i. entry_of (shield (arena_of s) i)) (states_of s) [] i h in
        omega (arith, marks_lt 8 (shield (arena_of s) i))

    beyond : states_of s ≤ i → get_or (shield_table s) i 0 < 10 ^ 3
    beyond h = omega (arith, get_or-eq_default (shield_table s) 0 {n = i} (omega (arith, table_length s)))

rows_short : (S : ℕ) (t : List ℕ) → Short t → length (rows_text S t) ≤ 312
unfolding rows_text
rows_short S t h =
    ⊎_elim (λ l. rw (lt-leb S 64 l) (omega arith)) (λ l. rw (le-leb S 64 l) (omega (arith, rows_length t ((S + 7) / 8) (omega arith) h))) (lt_or_le 64 S)

-- where the builder is done: what the lines of a set ask for, and that they fit
module _ (s : Set) (t w t' w' : List ℕ) (d : Built) (h : Builds s t w (Ok d) t' w') where
  finished : Finished s d.safe d.rounds d.start
  finished = done_finished s (length t) (length w) d h.answer

  pub done_short : length s.name ≤ 16 → length (built_text s (Ok d)) ≤ room
  done_short n =
      let v = passed_valid s finished.set in
      let l = few s d.safe d.rounds d.start finished in
      let x = set_length s (states_of s) n (omega (arith, v.count)) (omega (arith, v.states)) in
      let y = shield_length d.safe d.rounds d.start (omega (arith, v.states)) (omega (arith, v.states)) (omega (arith, finished.start, marks_lt 8 (shield (arena_of s) 0))) in
      simp length-append (omega (arith, rows_short (states_of s) (shield_table s) (entries_short s)))

-- no rows, and the rows of a table that is no longer than S
module _ (S : ℕ) (t : List ℕ) where
  pub rows_left_out : (x : List ℕ) → 64 < S → x ≡ x ++ rows_text S t
  unfolding rows_text
  rows_left_out x h = sym (ap (λ b. x ++ cond b (row_lines t ((S + 7) / 8)) []) (lt-leb S 64 h) ∙ append-nil x)

  pub rows_shown : (l : List ℕ) → S ≤ 64 → length t ≡ S → l ≡ t → row_lines l ((length l + 7) / 8) ≡ rows_text S t
  unfolding rows_text
  rows_shown l h n e =
      ap (λ x. row_lines x ((length x + 7) / 8)) e ∙ ap (λ m. row_lines t ((m + 7) / 8)) n
      ∙ sym (ap (λ b. cond b (row_lines t ((S + 7) / 8)) []) (le-leb S 64 h))

pub tells_as : {p q : List ℕ} {n : ℕ} {t w : List ℕ} {x y : Told} → Tells p q n t w x → x ≡ y → Tells p q n t w y
tells_as {p} {q} {n} {t} {w} k e = subst (Tells p q n t w) e k

-- a refusal's line fits
pub refused_short : (n p : ℕ) → n < 10 ^ 3 → p < 10 ^ 10 → length (refused_line n p) ≤ room
refused_short n p h l = omega (arith, refused_length n p h l)

-- what the builder answered
pub tells_built : (s : Set) (t w : List ℕ) (b : Result Built Refusal) (t' w' : List ℕ) {p q : List ℕ} {n : ℕ} → Builds s t w b t' w'
    → Puts p q 0 n (built_text s b) → length (built_text s b) ≤ room → Tells p q n t' w' (told_built s t w (build_of s (length t) (length w)))
tells_built s t w b t' w' h k l = tells_as (record { text = k; short = l; table = h.table; work = h.work }) (ap (told_built s t w) h.answer)

-- what the reader answered
module _ (sheet t w : List ℕ) (q : SheetRead) (e : q ≡ read_text sheet) where
  pub told_taken : q.answer ≡ Ok tt → told_built q.set t w (build_of q.set (length t) (length w)) ≡ told_of sheet t w
  unfolding told_of
  told_taken a = sym (ap (told_read q.set t w) a) ∙ ap (λ (y : SheetRead). told_read y.set t w y.answer) e

  pub told_refused : (f : Refusal) → q.answer ≡ Err f → record { text = refused_line (number_of f.reason) f.place; table = t; work = w } ≡ told_of sheet t w
  unfolding told_of
  told_refused f a = sym (ap (told_read q.set t w) a) ∙ ap (λ (y : SheetRead). told_read y.set t w y.answer) e

-- the output has no room, or has it
module _ (sheet t w o : List ℕ) where
  pub report_short : length o < room → leaving (Err (short room)) t w o ≡ report_of sheet t w o
  unfolding report_of
  report_short h = sym (ap (λ b. cond b (leaving (Err (short room)) t w o) (placed (told_of sheet t w) o)) (lt-ltb (length o) room h))

  pub report_room : room ≤ length o → report_of sheet t w o ≡ placed (told_of sheet t w) o
  unfolding report_of
  report_room h = ap (λ b. cond b (leaving (Err (short room)) t w o) (placed (told_of sheet t w) o)) (le-ltb (length o) room h)

  pub report_fits : (q : List ℕ) (n : ℕ) (t' w' : List ℕ) → room ≤ length o → Tells o q n t' w' (told_of sheet t w) → leaving (Ok n) t' w' q ≡ report_of sheet t w o
  report_fits q n t' w' h k = same (told_of sheet t w) k ∙ sym (report_room h)
    where
      same : (x : Told) → Tells o q n t' w' x → leaving (Ok n) t' w' q ≡ placed x o
      same x k =
          let z = puts_whole k.text (omega (arith, k.short)) in
          let m = z.0 in
          let f = z.1 in
          let a = k.table in
          let b = k.work in
          cc

  -- the report's length is within the output
  pub report_within : (r : Result ℕ Refusal) (t' w' o' : List ℕ) (n : ℕ) → leaving r t' w' o' ≡ report_of sheet t w o → r ≡ Ok n → n ≤ length o'
  unfolding report_of
  report_within r t' w' o' n e a = go (ltb (length o) room) e
    where
      go : (b : Bool) → leaving r t' w' o' ≡ cond b (leaving (Err (short room)) t w o) (placed (told_of sheet t w) o)
          → n ≤ length o'
      go true q =
          let l : Ok n ≡ Err (short room) = sym a ∙ ap (λ (y : Left). y.answer) q in
          let z : ⊥ = cc in
          absurd z
      go false q =
          let x = (told_of sheet t w).text in
          let l : ◌≡◌ {A = Result ℕ Refusal} (Ok n) (Ok (length x)) = sym a ∙ ap (λ (y : Left). y.answer) q in
          let m : n ≡ length x = cc in
          omega (arith, ap (λ (y : Left). length y.output) q, length-append x (drop (length x) o))
