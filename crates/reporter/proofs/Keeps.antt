-- What the report on a sheet leaves of everything that it was lent, by its answer in the paper's terms. Assumes nothing.
use mathlib.Core.Path.{◌≡◌, refl, sym, ap, ◌∙◌}
use mathlib.Core.List.{List, [], ◌∷◌}
use Prim.Native.Nat.{ℕ, ◌≤◌, ◌<◌}
use lib.Dec.{ltb, ltb→lt}
use lib.ListN.{length, drop, get_or}
use lib.Seq.{drop_at}
use Rattle.arena.proofs.Tests.{by_cond}
use Rattle.std.specs.Prelude.{Result, Ok, Err}
use Rattle.tasks.specs.declared.refusals.Refusal.{Refusal}
use Rattle.tasks.specs.Refusals.{answered, refusing, short}
use Rattle.shield.specs.declared.builder.Built.{Built}
use Rattle.shield.specs.Build.{build_of, Builds}
use Rattle.sheet_reader.specs.Reading.{read_text, said_read}
use Rattle.sheet_reader.proofs.Readings.{read_taken}
use Rattle.reporter.specs.Report.{room, Told, Left, told_read, told_of, report_of, said_reported}
use Rattle.reporter.proofs.Reports.{told_taken, report_room}

module _ (sheet t w o : List ℕ) where
  -- REFUSED, table, work and output are as before
  pub refused_keeps : let x = report_of sheet t w o in ((said_reported x.answer).number ≡ 0 → ⊥) → (x.table ≡ t) × (x.work ≡ w) × (x.output ≡ o)
  unfolding report_of
  refused_keeps =
      by_cond (λ (x : Left). ((said_reported x.answer).number ≡ 0 → ⊥) → (x.table ≡ t) × (x.work ≡ w) × (x.output ≡ o)) (ltb (length o) room) _ _
      (λ _ z. (refl, refl, refl)) (λ _ z. absurd (z refl))

  -- ANSWERED n, no byte of the output beyond n is changed
  pub beyond_stays : (n : ℕ) → let x = report_of sheet t w o in said_reported x.answer ≡ answered (n ∷ []) → drop n x.output ≡ drop n o
  unfolding report_of
  beyond_stays n =
      let x = (told_of sheet t w).text in
      by_cond (λ (x : Left). said_reported x.answer ≡ answered (n ∷ []) → drop n x.output ≡ drop n o) (ltb (length o) room) _ _
      (λ _ e. refl) (λ _ e. let k : length x ≡ n = ap (λ a. get_or a.values 0 0) e in drop_at x (drop (length x) o) n k ∙ ap (λ n. drop n o) k)

  -- a sheet that the reader refuses leaves table and work as they are
  pub unread_keeps : ((said_read (read_text sheet)).number ≡ 0 → ⊥) → let x = report_of sheet t w o in (x.table ≡ t) × (x.work ≡ w)
  unfolding report_of told_of
  unread_keeps z =
      by_cond (λ (x : Left). (x.table ≡ t) × (x.work ≡ w)) (ltb (length o) room) _ _ (λ _. (refl, refl)) (λ _. by (read_text sheet).answer refl)
    where
      by : (a : Result Unit Refusal) → (read_text sheet).answer ≡ a → let x = told_read (read_text sheet).set t w a in (x.table ≡ t) × (x.work ≡ w)
      by (Err f) e = (refl, refl)
      by (Ok _) e = absurd (z (ap (λ a. (said_read (record { answer = a; set = (read_text sheet).set })).number) e))

  -- with room for a report, a sheet that it takes leaves in them what a build of its set leaves
  pub read_builds : (said_read (read_text sheet)).number ≡ 0 → room ≤ length o
      → let x = report_of sheet t w o in (r : Result Built Refusal) × Builds (read_text sheet).set t w r x.table x.work
  read_builds a h =
      let s = (read_text sheet).set in
      let r = build_of s (length t) (length w) in
      let e = told_taken sheet t w (read_text sheet) refl (read_taken sheet (read_text sheet) refl a) in
      let l = report_room sheet t w o h in (
        r,
        record {
          answer = refl;
          table = ap (λ (x : Left). x.table) l ∙ ap (λ (x : Told). x.table) (sym e);
          work = ap (λ (x : Left). x.work) l ∙ ap (λ (x : Told). x.work) (sym e);
        },
      )

  -- the one refusal is 7, of an output without room for every report, with the bytes needed
  pub refused_short : let x = report_of sheet t w o in ((said_reported x.answer).number ≡ 0 → ⊥) → (said_reported x.answer ≡ refusing 1 (short room)) × (length o < room)
  unfolding report_of
  refused_short =
      by_cond (λ (x : Left). ((said_reported x.answer).number ≡ 0 → ⊥) → (said_reported x.answer ≡ refusing 1 (short room)) × (length o < room)) (ltb (length o) room) _ _
      (λ l z. (refl, ltb→lt (length o) room l)) (λ _ z. absurd (z refl))
