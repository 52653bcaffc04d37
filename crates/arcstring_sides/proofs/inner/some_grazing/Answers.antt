-- Some of the four side values grazes. Assumes nothing.
use Rattle.arcstring_sides.specs.Sides.{grazes}
use Rattle.arcstring_sides.proofs.Signs.{some_tested}
use Rattle.arcstring_sides.proofs.inner.some_grazing.Goals as goal

pub returns : goal.returns
returns c =
    some_tested (grazes _) _ _ _ _ _ c.well_formed.0.1.0.1 c.is_grazing.ensures c.is_grazing-2.ensures
    c.is_grazing-3.ensures c.is_grazing-4.ensures
