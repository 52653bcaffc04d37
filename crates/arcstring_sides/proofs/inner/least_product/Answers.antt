-- The least of the products is one of them. Assumes nothing.
use Rattle.arcstring_sides.proofs.Aparts.{products_differ}
use Rattle.arcstring_sides.proofs.inner.least_product.Goals as goal

pub returns : goal.returns
returns c = products_differ c.args.s c.well_formed.0.1.0.1 c.smaller.ensures c.smaller-2.ensures
