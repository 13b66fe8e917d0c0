-- What a command leaves of the run, of the set, and of the text.
use Rattle.std.specs.Prelude.{Bool, ◌||◌, cond, List, ◌++◌, ℕ, ◌%◌, eqb, take, drop}
use Rattle.commands.specs.declared.forms.Values.{Values}
use Rattle.commands.specs.Kinds as kind
use Rattle.tasks.specs.declared.sets.Set.{Set}
use Rattle.sheet_reader.specs.Reading.{read_text}
use Rattle.sheet_writer.specs.Writing.{write_of}
use Rattle.guard.specs.declared.runs.Run.{Run}
use Rattle.guard.specs.Runs.{start_of}
use Rattle.guard.specs.Ask.{ask_of}
use Rattle.guard.specs.Report.{report_of}
use Rattle.desk.specs.Fields.{set_with, run_with}

-- the run: what `start`, `ask` and `report` return, or a field set
unfoldable pub run_after : ℕ → Values → Set → List ℕ → Run → Run
run_after k vs s table r =
    cond (eqb k kind.start) (start_of s vs.first).run
    (cond (eqb k kind.ask) (ask_of s table r (vs.first % 256)).run
    (cond (eqb k kind.report) (report_of s r vs.first (eqb vs.second 1) (vs.third % 256)).run
    (cond (eqb k kind.show_run) r
    (run_with k vs.first vs.second r))))

-- `past`, `sheet`, `show set` and `test set` leave the set
abbrev pub leaves_set : ℕ → Bool
leaves_set k = eqb k kind.past || (eqb k kind.sheet || (eqb k kind.show_set || eqb k kind.test_set))

-- the set: what `read` returns, or `next` of a reader at a place; or a field set
unfoldable pub set_after : ℕ → Values → List ℕ → List ℕ → Set → Set
set_after k vs line text s =
    cond (eqb k kind.read) (read_text text).set
    (cond (eqb k kind.next) (read_text (drop vs.first text)).set
    (cond (leaves_set k) s
    (set_with k vs.first vs.second line s)))

-- the text of n bytes: `sheet` writes the set's sheet into it
unfoldable pub text_after : ℕ → Set → ℕ → List ℕ → List ℕ
text_after k s n text = cond (eqb k kind.sheet) ((write_of s (take n text)).bytes ++ drop n text) text
