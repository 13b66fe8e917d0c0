-- The report on PAIR, byte for byte. Assumes nothing.
use mathlib.Core.Path.{◌≡◌, refl, sym, ap, ap₂, ◌∙◌}
use mathlib.Core.Bool.{true, cond}
use mathlib.Core.List.{List, [], ◌∷◌, ◌++◌}
use Prim.Native.Nat.{ℕ, ◌≤◌}
use native.Mathlib.Omega.{arith}
use lib.ListN.{length, drop}
use borrow.Author.Tests.{le-ltb}
use Rattle.std.specs.Prelude.{Ok}
use Rattle.tasks.specs.Lists.{values, shortest_of, longest_of, length_of, listed}
use Rattle.tasks.specs.Sets.{name_byte, characters, zeros, good_name, blank, unfit, fault_of, fault_at, locals_of, states_to, lowest_fault, test_states, test_set}
use Rattle.game.specs.States.{local_of, state_of, in_range, index_to, local_at}
use Rattle.game.specs.Ticks.{runnable, can, tick_of}
use Rattle.game.specs.Game.{outcomes_to, arena_of}
use Rattle.shield.specs.declared.builder.Built.{Built}
use Rattle.shield.specs.Entries.{names, marks, list_to}
use Rattle.shield.specs.Build.{too_short, build_of}
use Rattle.sheet_form.specs.Form.{Line, Sheet, LineOk, Formed, Member, decimal, values_text, line_text}
use Rattle.sheet_form.specs.Sets.{list_of, padded, line_fault, set_of}
use Rattle.sheet_reader.specs.Reading.{read_text}
use Rattle.sheet_reader.proofs.Readings.{read_lines}
use Rattle.texts.specs.Texts.{bytes}
use Rattle.report_lines.specs.Lines.{digits_to, number_text, field, set_line, shield_line, row_line, row_lines, rows_text}
use Rattle.tasks.specs.Refusals.{answered}
use Rattle.reporter.specs.Report.{Told, built_text, room, Left, report_of, told_of, said_reported}
use Rattle.reporter.proofs.Reports.{told_taken, report_room}

abbrev line : Line
line = record { hard = true; deadline = 2; runs = record { firsts = []; final = 1 }; gaps = record { firsts = []; final = 2 } }

abbrev pair : Sheet
pair = record { name = bytes "PAIR"; lines = line ∷ line ∷ [] }

abbrev pub pair_text : List ℕ
pair_text = bytes "set PAIR\nhard 2 1 2\nhard 2 1 2\n"

abbrev pub pair_report : List ℕ
pair_report =
    bytes "set PAIR tasks 2 states 16\nshield 15 rounds 1 start 6\nrow 0 6 5 2 5 3 1 2 1\nrow 8 4 4 0 4 3 1 2 1\n"

line_ok : LineOk line
line_ok =
    record {
      deadline = record { low = omega arith; high = omega arith };
      runs = record { firsts = tt; final = record { low = omega arith; high = omega arith } };
      gaps = record { firsts = tt; final = record { low = omega arith; high = omega arith } };
    }

abbrev pair_figures : Built
pair_figures = record { safe = 15; rounds = 1; start = 6 }

pair_formed : Formed pair
unfolding name_byte
pair_formed =
    record {
      name = record { bytes = (tt, (tt, (tt, (tt, tt)))); low = omega arith; high = omega arith };
      lines = (line_ok, (line_ok, tt));
      low = omega arith;
      high = omega arith;
    }

pair_member : Member pair_text
unfolding decimal values_text line_text
pair_member = record { sheet = pair; formed = pair_formed; text = refl }

pair_read : read_text pair_text ≡ record { answer = Ok tt; set = set_of pair }
unfolding values shortest_of longest_of length_of name_byte characters zeros good_name blank unfit fault_of fault_at locals_of states_to lowest_fault test_states test_set list_of padded line_fault pair_member
pair_read = read_lines pair_text pair_member (omega arith)

pair_built : (n m : ℕ) → 16 ≤ n → 16 ≤ m → build_of (set_of pair) n m ≡ Ok pair_figures
unfolding values shortest_of longest_of length_of listed name_byte characters zeros good_name blank unfit fault_of fault_at locals_of states_to lowest_fault test_states test_set local_of state_of in_range index_to local_at runnable can tick_of outcomes_to arena_of names marks list_to list_of padded
pair_built n m h k = ap₂ (λ a b. cond a (too_short 16) (cond b (too_short 16) (Ok pair_figures))) (le-ltb n 16 h) (le-ltb m 16 k)

pair_text_lem : built_text (set_of pair) (Ok pair_figures) ≡ pair_report
unfolding values shortest_of longest_of length_of listed name_byte characters locals_of states_to local_of state_of in_range index_to local_at runnable can tick_of outcomes_to arena_of names marks list_to list_of padded set_line shield_line row_line row_lines rows_text field number_text digits_to
pair_text_lem = refl

-- with room for 16 states and for a report, the answer is 98 bytes, and the output begins with the lines on PAIR
pub pair_report_lem : (t w o : List ℕ) → 16 ≤ length t → 16 ≤ length w → room ≤ length o
    → let x = report_of pair_text t w o in (said_reported x.answer ≡ answered (98 ∷ [])) × (x.output ≡ pair_report ++ drop 98 o)
pair_report_lem t w o h k l =
    let e : (told_of pair_text t w).text ≡ pair_report =
    sym (ap (λ (x : Told). x.text) (told_taken pair_text t w (record { answer = Ok tt; set = set_of pair }) (sym pair_read) refl))
    ∙ ap (built_text (set_of pair)) (pair_built (length t) (length w) h k) ∙ pair_text_lem in
    let r = report_room pair_text t w o l in
    (ap (λ (x : Left). said_reported x.answer) r ∙ ap (λ x. answered (length x ∷ [])) e, ap (λ (x : Left). x.output) r ∙ ap (λ x. x ++ drop (length x) o) e)
