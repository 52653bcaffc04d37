-- `digit_count` is one more than the number's logarithm, by `Decimals`. Assumes nothing.
use Rattle.textform.proofs.inner.print.Decimals.{by_logarithm}
use Rattle.textform.proofs.inner.print.digit_count.Goals as goal

pub returns : goal.returns
returns c = by_logarithm c.args.n c.max.result c.ilog10.result c.max.ensures c.ilog10.ensures.power_le c.ilog10.ensures.next_power_gt
