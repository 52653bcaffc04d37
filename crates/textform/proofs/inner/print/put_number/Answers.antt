-- `put_number` writes a number's digits and the byte after them. Assumes nothing.
use native.Mathlib.Omega.{arith}
use Rattle.textform.proofs.inner.print.Printed.{number_written}
use Rattle.textform.proofs.inner.print.put_number.Goals as goal

pub returns : goal.returns
returns c = (
  omega arith,
  number_written c.args.out.now c.put_decimal-end.new.out c.args.at c.args.n c.put_decimal-end.result c.args.after (omega arith)
      c.put_decimal-end.ensures.1,
)
