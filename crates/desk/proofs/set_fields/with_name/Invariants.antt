-- The bytes before i are those of the name.
use mathlib.Core.Path.{◌≡◌}
use Prim.Native.Nat.{◌-◌}
use Rattle.desk_buffers.specs.Bytes.{put_at, said}
use Rattle.desk.proofs.set_fields.with_name.Given as goal

abbrev pub invariant-loop-i : goal.invariant-loop-i
invariant-loop-i l = (put_at l.i (said l.word (16 - l.i) l.i) l.r.name ≡ put_at 0 (said l.word 16 0) l.initial.r.name) × (l.r.count ≡ l.initial.r.count) × (l.r.tasks ≡ l.initial.r.tasks)
