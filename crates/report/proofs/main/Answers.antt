-- The report's length is within the text.
use Rattle.std.proofs.Common.{length-take-le, sym}
use Rattle.reporter.proofs.Reports.{report_within}
use Rattle.report.proofs.main.Goals as goal

pub slice_bounds-text-end : goal.slice_bounds-text-end
slice_bounds-text-end c = report_within _ _ _ _ _ _ _ _ _ c.report.ensures c.in-Ok.is

pub slice_bounds-put-end : goal.slice_bounds-put-end
slice_bounds-put-end c =
    sym (length-take-le c.in-Ok.length c.report.new.output (report_within _ _ _ _ _ _ _ _ _ c.report.ensures c.in-Ok.is))
