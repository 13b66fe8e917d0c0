-- The bytes before i are the header's.
use Rattle.std.proofs.Common.{◌≡◌, ◌++◌, take, drop}
use Rattle.table_file.specs.Files.{header}
use Rattle.table_file.proofs.writer.put_header.Given as goal

abbrev pub invariant-loop-i : goal.invariant-loop-i
invariant-loop-i l = l.file ≡ take l.i (header l.v.set) ++ drop l.i l.initial.file
