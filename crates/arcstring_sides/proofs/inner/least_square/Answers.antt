-- The least of the squares: each is above what it is above. Assumes nothing.
use Rattle.arcstring_sides.proofs.Aparts.{squares_clear}
use Rattle.arcstring_sides.proofs.inner.least_square.Goals as goal

pub returns : goal.returns
returns c =
    λ margin h. squares_clear c.args.s c.well_formed.0.1.0.1 margin c.smaller-last.ensures c.smaller.ensures
    c.smaller-2.ensures h
