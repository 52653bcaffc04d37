-- `xyzs_coplanar` is `coplanar_of` of its points' coordinates. Assumes nothing.
use Rattle.sphericalpoint_coplanar.proofs.xyzs_coplanar.Goals as goal

pub returns : goal.returns
returns c = c.coplanar_of.ensures
