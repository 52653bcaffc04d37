-- `print_counts` writes the heading, and the four counts below it. Assumes nothing.
use native.Mathlib.Omega.{arith}
use Rattle.textform_count.proofs.inner.print.Printed.{counts_written}
use Rattle.textform_count.proofs.inner.print.print_counts.Goals as goal

pub returns : goal.returns
returns c = (
  counts_written c.args.c _ _ c.put_text-at.ensures.1 c.put_counts.ensures.1,
  omega (arith, c.put_text-at.ensures.0),
)
