-- `sphericalpoint::xyz_eq` meets its contract by what its calls ensure. Assumes nothing.
use mathlib.Core.Path.{◌∙◌, ap}
use lib.Ieee.{Float, lt}
use Rattle.sphericalpoint.specs.declared.SphericalPoint.{SphericalPoint}
use Rattle.sphericalpoint.specs.Vector.{xyz_eq, xyz_abs, xyz_sum}
use Rattle.sphericalpoint.proofs.Tolerances.{equality_bits}
use Rattle.sphericalpoint.proofs.Magnitudes.{by_magnitudes}
use Rattle.sphericalpoint.proofs.xyz_eq.Goals as goal

pub returns : goal.returns
unfolding xyz_eq
returns c =
    by_magnitudes c.xyz_sub_xyz-d.result c.magnitude.result c.magnitude-2.result c.magnitude-3.result _ c.magnitude.ensures c.magnitude-2.ensures
    c.magnitude-3.ensures
    ∙ ap (λ (t : Float). lt (xyz_sum (xyz_abs c.xyz_sub_xyz-d.result)) t) equality_bits
    ∙ ap (λ (d : SphericalPoint). lt (xyz_sum (xyz_abs d)) _) c.xyz_sub_xyz-d.ensures
