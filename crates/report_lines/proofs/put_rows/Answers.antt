-- The rows so far are put.
use mathlib.Core.Path.{◌≡◌, sym, ap, ◌∙◌}
use Rattle.std.specs.Iterator.Adapters.{enumerate_source, enumerate_count}
use Rattle.std.specs.Slice.Iter.{chunks_rest, chunks_size}
use Rattle.texts.proofs.PutLaws.{adds_none, adds_then, adds_as}
use Rattle.report_lines.specs.Lines.{row_lines}
use Rattle.report_lines.proofs.Rows.{rows_none, all_coming, coming_next, coming_end, rows_next}
use Rattle.report_lines.proofs.put_rows.Goals as goal

pub loop-k-init : goal.loop-k-init
loop-k-init c =
    let s = c.into_iter-k-iterator.result in
    let e = c.into_iter-k-iterator.ensures.into_iter_gives in
    let f : enumerate_source s ≡ c.chunks.result = ap enumerate_source e ∙ c.enumerate-k-items.ensures.source in
    let z : enumerate_count s ≡ 0 = ap enumerate_count e ∙ c.enumerate-k-items.ensures.count in
    record {
      coming = all_coming c.args.table.now s (ap chunks_size f ∙ c.chunks.ensures.size) (ap chunks_rest f ∙ c.chunks.ensures.rest) z;
      put = adds_as (adds_none _) (rows_none _ ∙ ap (row_lines c.args.table.now) (sym z));
    }

pub loop-k-preserved : goal.loop-k-preserved
loop-k-preserved c =
    let l = c.loop-k.invariant in
    let t = c.in-Some in
    record {
      coming = coming_next l.coming t.k t.row c.next.new.self t.ensures.steps;
      put = adds_as (adds_then l.put c.put_row.ensures) (rows_next l.coming t.k t.row c.next.new.self t.ensures.steps);
    }

pub returns : goal.returns
returns c =
    let l = c.loop-k.invariant in
    adds_as l.put (ap (row_lines c.args.table.now) (coming_end l.coming _ c.in-None.ensures.steps))
