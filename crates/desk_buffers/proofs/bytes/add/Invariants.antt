-- The bytes before i are put in.
use Rattle.std.proofs.Common.{◌≡◌, ◌+◌, ◌-◌}
use Rattle.desk_buffers.specs.Bytes.{put_at, said}
use Rattle.desk_buffers.proofs.bytes.add.Given as goal

abbrev pub invariant-loop-i : goal.invariant-loop-i
invariant-loop-i l = put_at (l.at + l.i) (said l.word (l.count - l.i) l.i) l.buf ≡ put_at l.at (said l.word l.count 0) l.initial.buf
