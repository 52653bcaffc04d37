-- `report_text` prints the output of the definition for the bytes that it is given. Assumes nothing.
use Rattle.textform_season.proofs.inner.report.Reports.{whole_output}
use Rattle.textform_season.proofs.inner.report.report_text.Goals as goal

pub returns : goal.returns
returns c =
    (whole_output _ _ _ _ (c.begin.ensures _ _) c.feed-r.ensures c.conclude.ensures.out_after, c.conclude.ensures.upper_bound)
