-- All of the header's bytes.
use Rattle.std.proofs.Common.{◌≡◌, ap, ◌∙◌, ◌++◌, length, take, drop, rules, arith}
use lib.Seq.{take_all}
use Rattle.table_file.specs.Files.{header, header_length}
use Rattle.table_file.proofs.FileLaws.{header_length_lem}
use Rattle.table_file.proofs.writer.put_header.Goals as goal

pub returns : goal.returns
returns c = let l = c.loop-i in
    let a = c.args in
    let name : length a.v.set.name ≡ 16 = search rules in
    let h = header_length_lem a.v.set name in
    let e : l.i ≡ header_length a.v.set = omega arith in
    l.invariant ∙ ap (λ n. take n (header a.v.set) ++ drop n a.file.now) e ∙ ap (λ x. x ++ drop (header_length a.v.set) a.file.now) (take_all (header_length a.v.set) (header a.v.set) (omega arith))
