-- `total` adds up the counts of the pieces that stand. Assumes nothing.
use mathlib.Core.Path.{◌∙◌}
use native.Mathlib.Omega.{arith}
use lib.ListN.{take}
use Rattle.arcstring_piece.proofs.inner.replace.Sums.{sum_is}
use Rattle.arcstring_piece.proofs.inner.pieces.Pieces.total.Goals as goal

pub sum_of-requires : goal.sum_of-requires
sum_of-requires c = omega (arith, sum_is (take c.args.self.now.count c.args.self.now.counts), c.args.self.now.stands.limit)

pub returns : goal.returns
returns c = c.sum_of.ensures ∙ sum_is (take c.args.self.now.count c.args.self.now.counts)
