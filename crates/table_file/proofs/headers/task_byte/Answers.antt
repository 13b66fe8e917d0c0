-- The six bytes are the record's.
use Rattle.std.proofs.Common.{get_or, ap}
use Rattle.table_file.proofs.FileLaws.{six_bytes}
use Rattle.table_file.proofs.headers.task_byte.Goals as goal

pub returns : goal.returns
returns c = ap (λ l. get_or l c.args.k 0) (six_bytes c.args.t _ _ c.to_le_bytes-runs.ensures c.to_le_bytes-gaps.ensures)
