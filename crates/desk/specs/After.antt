-- What a command leaves of all that is held.
use Rattle.std.specs.Prelude.{◌≡◌, cond, List, ◌++◌, ℕ, min, eqb, leb, length, take, drop, Result, Ok, Err}
use Rattle.commands.specs.declared.buffers.Lengths.{Lengths}
use Rattle.commands.specs.declared.forms.Values.{Values}
use Rattle.commands.specs.Kinds as kind
use Rattle.tasks.specs.declared.sets.Set.{Set}
use Rattle.tasks.specs.Sets.{no_set}
use Rattle.shield.specs.Build.{build_of, table_built, work_built}
use Rattle.tasks.specs.declared.refusals.Refusal.{Refusal}
use Rattle.table_file.specs.Write.{write_of, file_written}
use Rattle.table_file.specs.Open.{open_of, handed}
use Rattle.reporter.specs.Report.{Left, report_of}
use Rattle.guard.specs.declared.runs.Run.{Run}
use Rattle.guard.specs.Runs.{start_run}
use Rattle.desk.specs.declared.Desk.{Desk}
use Rattle.desk.specs.declared.LentDesk.{LentDesk}
use Rattle.desk_buffers.specs.Bytes.{put_at}
use Rattle.desk_buffers.specs.Buffers.{Buffers, buffers_of, held_in, Same, buffers_after}
use Rattle.desk.specs.Steps.{set_after, text_after, run_after}

-- TABLE AND FILE

-- `build`: what the builder leaves of a table and a work buffer
abbrev pub built_table : Set → List ℕ → List ℕ → List ℕ
built_table s t w = table_built s (build_of s (length t) (length w)) t

abbrev pub built_work : Set → List ℕ → List ℕ → List ℕ
built_work s t w = work_built s (build_of s (length t) (length w)) w

-- `write`: what the writer leaves of a file buffer
abbrev pub file_after : Set → List ℕ → List ℕ → List ℕ
file_after s t f = file_written s t (write_of s t (length f)) f

-- `open`: the part handed back becomes the table; refused, the table stays
abbrev pub opened_length : Result Unit Refusal → List ℕ → ℕ → ℕ
opened_length (Ok _) part n = min (length part) 4294967295
opened_length (Err f) part n = n

abbrev pub opened_table : Result Unit Refusal → List ℕ → List ℕ → List ℕ
opened_table (Ok _) part t = put_at 0 part t
opened_table (Err f) part t = t

-- the buffers, lent with their present lengths
module _ (b : Buffers) where
  abbrev l : Lengths
  l = b.lengths

  abbrev table : List ℕ
  table = take l.table b.table

  abbrev work : List ℕ
  work = take l.work b.work

  abbrev file : List ℕ
  file = take l.file b.file

  -- `print`: what the report on the text leaves
  abbrev report : Left
  report = report_of (take l.text b.text) table work file

  abbrev pub printed : Buffers
  printed =
      buffers_of l (report.table ++ drop l.table b.table) (report.work ++ drop l.work b.work) (report.output ++ drop l.file b.file) b.text

  module _ (s : Set) where
    abbrev pub built : Buffers
    built = buffers_of l (built_table s table work ++ drop l.table b.table) (built_work s table work ++ drop l.work b.work) b.file b.text

    abbrev pub written : Buffers
    written = buffers_of l b.table b.work (file_after s table file ++ drop l.file b.file) b.text

    abbrev pub opened : Buffers
    opened =
        buffers_of
        (record { table = opened_length (open_of s file) (handed s file) l.table; work = l.work; file = l.file; text = l.text })
        (opened_table (open_of s file) (handed s file) b.table) b.work b.file b.text

    unfoldable pub tables_after : ℕ → Buffers
    tables_after k =
        cond (eqb k kind.build) built
        (cond (eqb k kind.test_table) b
        (cond (eqb k kind.write) written
        (cond (eqb k kind.open_file) opened printed)))

-- ALL

pub record Held : Type 0 where
  pub set : Set
  pub run : Run
  pub buffers : Buffers

-- what a desk holds over these bytes
abbrev pub held_over : Desk → List ℕ → List ℕ → List ℕ → List ℕ → Held
held_over d t w f x = record { set = d.set; run = d.run; buffers = buffers_of d.lengths t w f x }

-- what a lent desk holds
abbrev pub held_of : LentDesk → Held
held_of d = record { set = d.set; run = d.run; buffers = held_in d.buffers }

-- the lent desk d has become e, over the same four buffers, and holds h
pub record Leaves (d e : LentDesk) (h : Held) : Type 0 where
  pub same : Same d.buffers e.buffers
  pub holds : held_of e ≡ h

-- everything as at the beginning: bytes that no buffer has do not count
abbrev pub no_lengths : Lengths
no_lengths = record { table = 0; work = 0; file = 0; text = 0 }

abbrev pub no_desk : Desk
no_desk = record { set = no_set; run = start_run 0 0; lengths = no_lengths }

module _ (k : ℕ) (vs : Values) (line : List ℕ) (h : Held) where
  abbrev b : Buffers
  b = h.buffers

  -- a command on the set leaves all but the set and the text
  abbrev pub set_held : Held
  set_held = record {
    set = set_after k vs line (take b.lengths.text b.text) h.set;
    run = h.run;
    buffers = buffers_of b.lengths b.table b.work b.file (text_after k h.set b.lengths.text b.text);
  }

  abbrev pub run_held : Held
  run_held = record { set = h.set; run = run_after k vs h.set (take b.lengths.table b.table) h.run; buffers = b }

  abbrev pub buffer_held : Held
  buffer_held = record { set = h.set; run = h.run; buffers = buffers_after k vs line b }

  -- a command on the table or the file leaves set and run
  abbrev pub tables_held : Held
  tables_held = record { set = h.set; run = h.run; buffers = tables_after b h.set k }

  -- the kinds stand in groups: reset; buffers; set and sheet; table and file; run
  unfoldable pub command_after : Held
  command_after =
      cond (eqb k kind.reset) (held_over no_desk b.table b.work b.file b.text)
      (cond (leb k kind.text) buffer_held
      (cond (leb k kind.test_set) set_held
      (cond (leb k kind.print) tables_held run_held)))
