-- The header, and behind it the table's first n entries.
use Rattle.std.proofs.Common.{◌≡◌, length, rules}
use Rattle.table_file.proofs.FileLaws.{header_length_lem}
use Rattle.table_file.proofs.WriteLaws.{stored}
use Rattle.table_file.proofs.writer.put_file.Goals as goal

pub returns : goal.returns
returns c =
    let name : length c.args.v.set.name ≡ 16 = search rules in
    stored c.args.v.set c.args.table.now c.args.file.now _ _ _ c.args.v.states (header_length_lem c.args.v.set name) c.header_length-head.ensures c.args.v.counted c.put_header.ensures c.copy_from_slice.ensures.after
