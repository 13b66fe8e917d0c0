-- What a line leaves, mangled or taken, and a piece of the log, a byte at a time.
use Rattle.std.proofs.Common.{◌≡◌, ℕ, ◌+◌, ◌<◌, ◌≤◌, List, ◌∙◌, length, get_or, drop, add-one, drop_of_length-le, drop-cons}
use Rattle.commands.specs.declared.lines.Command.{Command}
use Rattle.std.specs.Prelude.{Some, None}
use Rattle.commands.specs.Lines.{parse_of}
use Rattle.desk_buffers.specs.Buffers.{Same}
use Rattle.desk_buffers.specs.declared.Buffers.{Buffers}
use Rattle.desk.specs.After.{Held, command_after}
use Rattle.replay.specs.Log.{line_after, Logged, byte_after, piece_after}

module _ (line : List ℕ) (h : Held) where
  pub line_mangled : parse_of h.buffers.lengths line ≡ None → h ≡ line_after line h
  line_mangled e = rw e

  pub line_taken : (c : Command) (h' : Held) → parse_of h.buffers.lengths line ≡ Some c → h' ≡ command_after c.kind c.values line h → h' ≡ line_after line h
  line_taken c h' e g = rw e g

pub same_then : {p q r : Buffers} → Same p q → Same q r → Same p r
same_then a b = record { table = b.table ∙ a.table; work = b.work ∙ a.work; file = b.file ∙ a.file; text = b.text ∙ a.text }

-- z is what the whole piece leaves
pub piece_next : (i : ℕ) (p : List ℕ) (g g' z : Logged) → i < length p → g' ≡ byte_after (get_or p i 0) g → piece_after (drop i p) g ≡ z → piece_after (drop (i + 1) p) g' ≡ z
unfolding piece_after
piece_next i p g g' z h e k = rw (e, add-one i) (rw (drop-cons p i 0 h) at k)

pub piece_end : (i : ℕ) (p : List ℕ) (g : Logged) → length p ≤ i → piece_after (drop i p) g ≡ g
unfolding piece_after
piece_end i p g h = rw (drop_of_length-le p {i = i} h)
