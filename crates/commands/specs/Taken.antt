-- What a command that is taken asks of the buffers: no length beyond a buffer's most, and no byte that it does not have.
use Rattle.std.specs.Prelude.{◌≡◌, ◌+◌, ◌<◌, ◌≤◌}
use Rattle.commands.specs.declared.buffers.Lengths.{Lengths}
use Rattle.commands.specs.declared.lines.Command.{Command}
use Rattle.commands.specs.Buffers.{text_most, length_of, most_of}
use Rattle.commands.specs.Kinds as kind

pub record Within (l : Lengths) (c : Command) : Type 0 where
  pub filled : c.kind ≡ kind.fill → c.values.second ≤ most_of c.values.first
  pub cut : c.kind ≡ kind.cut → c.values.second ≤ most_of c.values.first
  pub poked : c.kind ≡ kind.poke → c.values.second < length_of l c.values.first
  pub shown : c.kind ≡ kind.show → c.values.second + c.values.third ≤ length_of l c.values.first
  pub added : c.kind ≡ kind.text → l.text + c.values.first ≤ text_most
