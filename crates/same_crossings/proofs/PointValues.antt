-- The values of a point's coordinates, as `PointValue` has them, are the same exactly where the points are the same vector by value. Assumes nothing.
use mathlib.Core.Path.{◌≡◌, ap}
use Rattle.sphericalpoint.specs.declared.SphericalPoint.{SphericalPoint}
use Rattle.sphericalpoint.proofs.VectorValues.{like, like_value, Same}
use Rattle.same_crossings.specs.Changes.{PointValue, point_value}

pub same_point : {u v : SphericalPoint} → Same u v → point_value u ≡ point_value v
same_point s = λ i. record { x = like_value s.x i; y = like_value s.y i; z = like_value s.z i }

pub point_same : {u v : SphericalPoint} → point_value u ≡ point_value v → Same u v
point_same e = record { x = like (ap (λ (p : PointValue). p.x) e); y = like (ap (λ (p : PointValue). p.y) e); z = like (ap (λ (p : PointValue). p.z) e) }
