-- `put_counts` writes the four counts, one after the other, the last with the byte that it is given. Assumes nothing.
use native.Mathlib.Omega.{arith}
use lib.ListN.{take}
use Rattle.textform_count.proofs.inner.print.Printed.{four_written}
use Rattle.textform_count.proofs.inner.print.put_counts.Goals as goal

pub returns : goal.returns
returns c = (
  omega (arith, c.put_number-at.ensures.0, c.put_number-at-2.ensures.0, c.put_number-at-3.ensures.0),
  four_written c.args.c c.args.after (take c.args.at c.args.out.now) _ _ _ _ c.put_number-at.ensures.1 c.put_number-at-2.ensures.1
      c.put_number-at-3.ensures.1 c.put_number.ensures.1,
)
