-- The bytes before i are filled.
use Rattle.std.proofs.Common.{◌≡◌, ◌-◌}
use Rattle.desk_buffers.specs.Bytes.{filled}
use Rattle.desk_buffers.proofs.bytes.fill.Given as goal

abbrev pub invariant-loop-i : goal.invariant-loop-i
invariant-loop-i l = filled (l.end - l.i) l.i l.v l.buf ≡ filled (l.end - l.from) l.from l.v l.initial.buf
