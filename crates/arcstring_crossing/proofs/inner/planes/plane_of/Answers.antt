-- What the pair test takes of a leg. Assumes nothing.
use Rattle.arcstring_crossing.proofs.KeptPlanes.{plane_made}
use Rattle.arcstring_crossing.proofs.inner.planes.plane_of.Goals as goal

pub returns : goal.returns
returns c =
    plane_made _ _ _ _ _ _ _ c.start_of-from.ensures c.end_of-to.ensures c.xyz_cross-normal.ensures
    c.xyz_cross.ensures c.xyz_neg-past_start.ensures c.xyz_cross-before_end.ensures
