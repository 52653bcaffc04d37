-- `put_track` writes the track's number, and the rest of its line. Assumes nothing.
use native.Mathlib.Omega.{arith}
use lib.ListN.{take}
use Rattle.textform.specs.Print.{decimal}
use Rattle.textform_report.proofs.inner.lines.Lines.{line_written}
use Rattle.textform_report.proofs.inner.lines.put_track.Goals as goal

pub returns : goal.returns
returns c = (
  omega (arith, c.put_number-at.ensures.0),
  line_written (decimal c.args.n) c.args.c (take c.args.at c.args.out.now) _ _ c.put_number-at.ensures.1 c.put_rest.ensures.1,
)
