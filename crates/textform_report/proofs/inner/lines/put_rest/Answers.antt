-- `put_rest` writes the four counts, and their permille behind them. Assumes nothing.
use native.Mathlib.Omega.{arith}
use lib.ListN.{take}
use Rattle.textform_report.proofs.inner.lines.Lines.{rest_written}
use Rattle.textform_report.proofs.inner.lines.put_rest.Goals as goal

pub returns : goal.returns
returns c = (
  omega (arith, c.put_counts-at.ensures.0),
  rest_written c.args.c c.permille-rate.result (take c.args.at c.args.out.now) _ _ c.permille-rate.ensures c.put_counts-at.ensures.1
      c.put_number.ensures.1,
)
