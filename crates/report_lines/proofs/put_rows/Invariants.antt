-- The rows so far are put.
use Rattle.std.specs.Iterator.Adapters.{enumerate_count}
use Rattle.texts.specs.Puts.{Adds}
use Rattle.report_lines.specs.Lines.{row_lines}
use Rattle.report_lines.proofs.Rows.{Coming}
use Rattle.report_lines.proofs.put_rows.Given as goal

abbrev pub invariant-loop-k : goal.invariant-loop-k
invariant-loop-k l = record {
  coming : Coming l.table l.k-iterator;
  put : Adds l.initial.page l.page (row_lines l.table (enumerate_count l.k-iterator));
}
