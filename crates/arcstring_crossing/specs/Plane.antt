-- What the pair test takes of a leg, worked out once, and that it is all of the leg that the test needs: for inner contracts. Definitions only.
use Rattle.std.specs.Prelude.{◌≡◌, List, [], ◌∷◌, ◌++◌, ℕ, zero, suc, ◌+◌, ◌<◌, ◌≤◌, get_or, eqb, replicate, Float}
use Rattle.std.specs.Float.{nan}
use Rattle.ieee754.specs.Value.{zero_float}
use Rattle.sphericalpoint.specs.declared.SphericalPoint.{SphericalPoint}
use Rattle.sphericalpoint.specs.Vector.{xyz_cross, xyz_dot, xyz_neg}
use Rattle.arcstring_crossing.specs.declared.inner.planes.Plane.{Plane}
use Rattle.arcstring_crossing.specs.declared.inner.planes.Vectors.{Vectors}
use Rattle.arcstring_crossing.specs.declared.inner.planes.Planes.{Planes}
use Rattle.arcstring_check.specs.Answer.{pick}
use Rattle.arcstring.specs.Points.{point}
use Rattle.arcstring_pair.specs.declared.pair.Pair.TheVariants.{Apart}
use Rattle.arcstring_pair.specs.Pair.{normal, pair_of}
use Rattle.arcstring.specs.Leg.{Leg, leg_at}

unfoldable pub plane_of : Leg → Plane
plane_of l = record { normal = normal l; past_start = xyz_neg (xyz_cross l.from (normal l)); before_end = xyz_cross l.to (normal l) }

-- the four side values
unfoldable pub plane_sides : Plane → Plane → SphericalPoint → List Float
plane_sides a b t = xyz_dot a.past_start t ∷ xyz_dot a.before_end t ∷ xyz_dot b.past_start t ∷ xyz_dot b.before_end t ∷ []

-- ---- planes kept vector by vector, and vectors coordinate by coordinate

abbrev pub vector_at : {N : ℕ} → Vectors N → ℕ → SphericalPoint
vector_at v k = point (get_or v.x k nan) (get_or v.y k nan) (get_or v.z k nan)

-- N zero vectors
abbrev pub zero_vectors : (N : ℕ) → Vectors N
zero_vectors N = record { x = replicate N zero_float; y = replicate N zero_float; z = replicate N zero_float }

abbrev pub plane_at : {N : ℕ} → Planes N → ℕ → Plane
plane_at s k = record { normal = vector_at s.normal k; past_start = vector_at s.past_start k; before_end = vector_at s.before_end k }

-- the planes are those of the first l legs of a string of n vertices
abbrev pub PlanesOf : {N : ℕ} → List Float → ℕ → ℕ → Planes N → Type 0
PlanesOf v n l s = (k : ℕ) → k < l → plane_at s k ≡ plane_of (leg_at v n k)

-- ---- what a pass over the planes tells, at a margin, of the pairs of a leg with those of a string of n vertices from position `from` up to `to`

-- each pair is apart
pub record AllApart (margin : Float) (a : Leg) (v : List Float) (n from to : ℕ) : Type 0 where
  pub each : (k : ℕ) → from ≤ k → k < to → Apart ≡ pair_of margin a (leg_at v n k)

-- each pair whose flag is 0 is
pub record FlagsOf (margin : Float) (a : Leg) (v : List Float) (n from to : ℕ) (flags : List ℕ) : Type 0 where
  pub each : (k : ℕ) → from ≤ k → k < to → get_or flags k 0 ≡ 0 → Apart ≡ pair_of margin a (leg_at v n k)

-- of so many positions from k on, those whose flag is not 0
unfoldable pub flagged_from : List ℕ → ℕ → ℕ → List ℕ
flagged_from flags k zero = []
flagged_from flags k (suc m) = pick (eqb (get_or flags k 0) 0) [] (k ∷ []) ++ flagged_from flags (k + 1) m
