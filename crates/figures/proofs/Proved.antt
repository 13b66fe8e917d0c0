-- The figures hold: one proof over the table. Assumes nothing.
use mathlib.Core.Path.{◌≡◌, refl}
use mathlib.Core.List.{map}
use Rattle.tasks.specs.Lists.{values, shortest_of, longest_of, length_of, listed}
use Rattle.tasks.specs.Sets.{name_byte, characters, zeros, good_name, blank, unfit, fault_of, fault_at, locals_of, states_to, lowest_fault, test_states, test_set}
use Rattle.game.specs.States.{local_of, state_of, in_range, index_to, local_at}
use Rattle.game.specs.Ticks.{runnable, can, tick_of}
use Rattle.game.specs.Game.{outcomes_to, arena_of}
use Rattle.shield.specs.Entries.{names, marks, list_to}
use Rattle.shield.specs.Test.{faulty}
use Rattle.table_file.specs.Files.{low_first, task_bytes, tasks_bytes, header, file_of}
use Rattle.table_file.specs.Open.{lowest, open_passed}
use Rattle.guard.specs.Runs.{start_run, task_fits, place_empty, place_fits, legal_for, fits}
use Rattle.guard.specs.Ask.{serves, better, substitute_to, choice_for, ask_given, ask_entry, ask_fits}
use Rattle.guard.specs.Report.{tick_at, strays, impossible, state_then, counts_then, run_after, report_named}
use Rattle.figures.specs.Figures.{answer, figures}

pub figures_hold : map (λ f. answer f.asked) figures ≡ map (λ f. f.is) figures
unfolding values shortest_of longest_of length_of listed name_byte characters zeros good_name blank unfit fault_of fault_at locals_of states_to lowest_fault test_states test_set local_of state_of in_range index_to local_at runnable can tick_of outcomes_to arena_of names marks list_to faulty low_first task_bytes tasks_bytes header file_of lowest open_passed start_run task_fits place_empty place_fits legal_for fits serves better substitute_to choice_for ask_given ask_entry ask_fits tick_at strays impossible state_then counts_then run_after report_named
figures_hold = refl
