-- A sum of three floats with the values of sizes compares as the sum of the sizes. Assumes nothing.
use mathlib.Core.Path.{◌≡◌, refl}
use lib.Ieee.{Float, binary64, add, lt}
use Rattle.ieee754.specs.Size.{abs}
use Rattle.ieee754.specs.Value.{value}
use Rattle.ieee754.proofs.ByValue.{add-value}
use Rattle.ieee754.proofs.Comparisons.{lt-value}
use Rattle.sphericalpoint.specs.declared.SphericalPoint.{SphericalPoint}
use Rattle.sphericalpoint.specs.Vector.{xyz_abs, xyz_sum}

-- adding and comparing go by values
pub by_magnitudes : (d : SphericalPoint) (u v w t : Float) → value u ≡ value (abs d.x) → value v ≡ value (abs d.y) → value w ≡ value (abs d.z)
    → lt (add binary64 (add binary64 u v) w) t ≡ lt (xyz_sum (xyz_abs d)) t
unfolding xyz_sum xyz_abs
by_magnitudes d u v w t a b c =
    lt-value _ _ t t (add-value binary64 (add binary64 u v) _ w _ (add-value binary64 u _ v _ a b) c) refl
