-- Each buffer's length is at most its most.
use Rattle.std.specs.Prelude.{◌≤◌}
use Rattle.commands.specs.declared.buffers.Lengths.{Lengths}
use Rattle.commands.specs.Buffers.{table_most, file_most, text_most}

pub record Fitted (l : Lengths) : Type 0 where
  pub table : l.table ≤ table_most
  pub work : l.work ≤ table_most
  pub file : l.file ≤ file_most
  pub text : l.text ≤ text_most
