-- The definitions that go by a test, at each outcome of the test. Assumes nothing.
use mathlib.Core.Path.{◌≡◌, sym, ap}
use mathlib.Core.Bool.{Bool, true, false}
use lib.Ieee.{binary64, sub, lt}
use Rattle.sphericalpoint.specs.declared.SphericalPoint.{SphericalPoint}
use Rattle.sphericalpoint.specs.Vector.{equality_tolerance, unit_tolerance, xyz_length, xyz_div, normalized}
use Rattle.sphericalpoint.specs.Point.{one, pick_point, normalized_unless_short, point_from}

module _ (a : SphericalPoint) where
  pub short_stays : lt (xyz_length a) equality_tolerance ≡ true → a ≡ normalized_unless_short a
  unfolding normalized_unless_short
  short_stays h = sym (ap (λ (t : Bool). pick_point t a (normalized a)) h)

  pub long_divided : lt (xyz_length a) equality_tolerance ≡ false → xyz_div a (xyz_length a) ≡ normalized_unless_short a
  unfolding normalized_unless_short normalized
  long_divided h = sym (ap (λ (t : Bool). pick_point t a (normalized a)) h)

  pub unit_stays : lt (sub binary64 (xyz_length a) one) unit_tolerance ≡ true → a ≡ point_from a
  unfolding point_from
  unit_stays h = sym (ap (λ (t : Bool). pick_point t a (normalized a)) h)

  pub other_normalized : lt (sub binary64 (xyz_length a) one) unit_tolerance ≡ false → normalized a ≡ point_from a
  unfolding point_from
  other_normalized h = sym (ap (λ (t : Bool). pick_point t a (normalized a)) h)
