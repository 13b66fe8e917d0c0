-- What a line, and a piece of the log, leaves of all that is held.
use Rattle.std.specs.Prelude.{ℕ, ◌≡◌, ◌+◌, ◌%◌, ◌^◌, cond, List, [], ◌∷◌, take, Option, Some, None, ◌==◌, nat_lt, slice_set}
use Rattle.commands.specs.declared.lines.Command.{Command}
use Rattle.commands.specs.Lines.{parse_of}
use Rattle.desk_buffers.specs.Buffers.{Same}
use Rattle.desk.specs.After.{Held, held_over, held_of, no_desk, command_after}
use Rattle.desk.specs.declared.LentDesk.{LentDesk}
use Rattle.replay.specs.declared.Log.{Log}

-- a mangled line changes nothing
abbrev pub parsed_after : Option Command → List ℕ → Held → Held
parsed_after None line h = h
parsed_after (Some c) line h = command_after c.kind c.values line h

abbrev pub line_after : List ℕ → Held → Held
line_after line h = parsed_after (parse_of h.buffers.lengths line) line h

-- THE LOG, BYTE BY BYTE

-- what is held, the bytes of the line so far, and the number of lines before it
pub record Logged : Type 0 where
  pub held : Held
  pub line : List ℕ
  pub used : ℕ
  pub lines : ℕ

abbrev pub logged_of : Log → LentDesk → Logged
logged_of g d = record { held = held_of d; line = g.line.now; used = g.used; lines = g.lines }

-- the log g and the lent desk d have become k and e, over the same memory, and what is kept is n
pub record Goes (g k : Log) (d e : LentDesk) (n : Logged) : Type 0 where
  pub same : Same d.buffers e.buffers
  pub line : k.line.ghost_name ≡ g.line.ghost_name
  pub kept : logged_of k e ≡ n

-- at the beginning nothing is held, and no byte is read
abbrev pub no_log : List ℕ → List ℕ → List ℕ → List ℕ → List ℕ → Logged
no_log line t w f x = record { held = held_over no_desk t w f x; line = line; used = 0; lines = 0 }

-- an LF ends the line
unfoldable pub ended_line : Logged → Logged
ended_line g = record { held = line_after (take g.used g.line) g.held; line = g.line; used = 0; lines = (g.lines + 1) % 2 ^ 64 }

-- any other byte goes behind those of the line, of which 256 are kept: one more than a line may have
abbrev pub line_with : ℕ → Logged → Logged
line_with b g =
    cond (nat_lt g.used 256) (record { held = g.held; line = slice_set g.line g.used b; used = g.used + 1; lines = g.lines }) g

unfoldable pub byte_after : ℕ → Logged → Logged
byte_after b g = cond (b == 10) (ended_line g) (line_with b g)

-- the bytes of a piece, one after the other
unfoldable pub piece_after : List ℕ → Logged → Logged
piece_after [] g = g
piece_after (b ∷ p) g = piece_after p (byte_after b g)
