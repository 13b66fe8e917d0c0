-- At the beginning, and after any piece of a log, each buffer's length is at most its most.
use Rattle.std.proofs.Common.{◌≡◌, ℕ, ◌+◌, Bool, true, false, cond, eqb, ltb, List, [], ◌∷◌, take, set, refl, arith}
use Rattle.std.specs.Prelude.{Option, Some, None}
use Rattle.commands.specs.declared.lines.Command.{Command}
use Rattle.commands.specs.Lines.{parse_of}
use Rattle.commands.proofs.Taken.{taken_within}
use Rattle.desk.specs.After.{Held, no_lengths}
use Rattle.desk.specs.Fitted.{Fitted}
use Rattle.desk.proofs.Fitted.{command_fitted}
use Rattle.replay.specs.Log.{parsed_after, line_after, Logged, no_log, ended_line, line_with, byte_after, piece_after}

none_fitted : Fitted no_lengths
none_fitted = record { table = omega arith; work = omega arith; file = omega arith; text = omega arith }

abbrev Fits : Held → Type 0
Fits h = Fitted h.buffers.lengths

pub line_fitted : (line : List ℕ) (h : Held) → Fits h → Fits (line_after line h)
line_fitted line h f = step (parse_of h.buffers.lengths line) refl
  where
    step : (p : Option Command) → parse_of h.buffers.lengths line ≡ p → Fits (parsed_after p line h)
    step None e = f
    step (Some c) e = command_fitted c line h (taken_within h.buffers.lengths line c e) f

byte_fitted : (b : ℕ) (g : Logged) → Fits g.held → Fits (byte_after b g).held
unfolding byte_after ended_line
byte_fitted b g f = step (eqb b 10)
  where
    kept : (t : Bool) → Fits (cond t (record { held = g.held; line = set g.line g.used b; used = g.used + 1; lines = g.lines }) g).held
    kept true = f
    kept false = f

    step : (t : Bool) → Fits (cond t (ended_line g) (line_with b g)).held
    step true = line_fitted (take g.used g.line) g.held f
    step false = kept (ltb g.used 256)

pub piece_fitted : (p : List ℕ) (g : Logged) → Fits g.held → Fits (piece_after p g).held
unfolding piece_after
piece_fitted [] g f = f
piece_fitted (b ∷ p) g f = piece_fitted p (byte_after b g) (byte_fitted b g f)

-- from the beginning of a log on
pub log_fitted : (p line t w f x : List ℕ) → Fits (piece_after p (no_log line t w f x)).held
log_fitted p line t w f x = piece_fitted p (no_log line t w f x) none_fitted
