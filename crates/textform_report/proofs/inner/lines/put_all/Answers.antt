-- `put_all` writes the word for all tracks, and the rest of their line. Assumes nothing.
use native.Mathlib.Omega.{arith}
use lib.ListN.{take}
use Rattle.textform_report.specs.Report.{all_word}
use Rattle.textform_report.proofs.inner.lines.Lines.{line_written}
use Rattle.textform_report.proofs.inner.lines.put_all.Goals as goal

pub returns : goal.returns
returns c = (
  omega (arith, c.put_text-at.ensures.0),
  line_written all_word c.args.c (take c.args.at c.args.out.now) _ _ c.put_text-at.ensures.1 c.put_rest.ensures.1,
)
