-- `put_heading` writes the heading's bytes. Assumes nothing.
use Rattle.textform_report.specs.Report.{report_heading}
use Rattle.textform_report.proofs.inner.lines.put_heading.Goals as goal

pub returns : goal.returns
unfolding report_heading
returns c = c.put_text.ensures
