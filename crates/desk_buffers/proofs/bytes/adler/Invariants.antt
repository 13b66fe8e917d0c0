-- The sum of the bytes before the index.
use Rattle.std.proofs.Common.{◌≡◌, ◌<◌, drop}
use Rattle.desk_buffers.specs.Bytes.{modulus, adler_from}
use Rattle.desk_buffers.proofs.bytes.adler.Given as goal

abbrev pub invariant-loop-x : goal.invariant-loop-x
invariant-loop-x l = (l.a < modulus) × (l.b < modulus) × (adler_from l.a l.b (drop l.x-index l.buf) ≡ adler_from 1 0 l.buf)
