-- What is claimed of the floats that a pair of legs is judged by: with coordinates from -1 to 1 none is a NaN or infinite, and each side value is exactly one
-- of zero, above and below. Definitions only. The proof is `pairs_finite` of `proofs/AcceptedLegs.antt`.
use Rattle.std.specs.Prelude.{◌≡◌, Bool, true, false, ℕ, Float}
use mathlib.Core.List.{Memᴰ}
use Rattle.ieee754.specs.Bound.{AtMost}
use Rattle.ieee754.specs.Value.{is_zero}
use Rattle.sphericalpoint.specs.declared.SphericalPoint.{SphericalPoint}
use Rattle.arcstring.specs.Leg.{Leg, leg_check}
use Rattle.arcstring_sides.specs.Sides.{is_above, is_below}
use Rattle.arcstring_pair.specs.Pair.{meeting, side_values}

-- each coordinate is finite, and its size is at most 2 ^ k
pub record EachAtMost (k : ℕ) (u : SphericalPoint) : Type 0 where
  pub x : AtMost k u.x
  pub y : AtMost k u.y
  pub z : AtMost k u.z

-- of three tests one holds and two fail
pub data ExactlyOne : Bool → Bool → Bool → Type 0 where
  only_first : ExactlyOne true false false
  only_second : ExactlyOne false true false
  only_third : ExactlyOne false false true

pub record FinitePair (a b : Leg) : Type 0 where
  -- the point where the planes meet: its coordinates are at most 8 in size
  pub point_finite : EachAtMost 3 (meeting a b)
  -- the side values: at most 128
  pub sides_finite : (x : Float) → Memᴰ x (side_values a b (meeting a b)) → AtMost 7 x
  pub one_of_three : (x : Float) → Memᴰ x (side_values a b (meeting a b)) → ExactlyOne (is_zero x) (is_above x) (is_below x)

-- Of every pair of legs that pass the pair call's check, as the legs of accepted strings do (`StringLegsAccepted` of PairLaws.antt).
abbrev pub PairsFinite : Type 0
PairsFinite = (a b : Leg) → leg_check a ≡ 0 → leg_check b ≡ 0 → FinitePair a b
