-- The four side values. Assumes nothing.
use Rattle.arcstring_crossing.specs.Plane.{plane_sides}
use Rattle.arcstring_sides.proofs.Signs.{four_alike}
use Rattle.arcstring_crossing.proofs.inner.planes.side_values.Goals as goal

pub returns : goal.returns
unfolding plane_sides
returns c =
    four_alike _ _ _ _ _ _ _ _ c.xyz_dot.ensures c.xyz_dot-2.ensures c.xyz_dot-3.ensures
    c.xyz_dot-4.ensures
