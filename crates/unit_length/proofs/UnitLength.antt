-- The laws of `specs/UnitLaws.antt`: a point from -1 to 1 whose computed length is not below 3e-11, normalised, is again from -1 to 1 and has length 1,
-- nearly. So it has once it is normalised again. Assumes nothing.
use mathlib.Core.Path.{◌≡◌, refl, sym, ap, ◌∙◌, subst}
use mathlib.Core.Bool.{Bool, true, false, not}
use Prim.Native.Nat.{ℕ, ◌+◌, ◌*◌, ◌^◌, ◌≤◌, ◌<◌}
use native.Mathlib.Nat.{le_refl, le_trans, le_of_lt, lt_of_not-le, not-le_of_lt, mul-pos, mul_comm, mul-le-mul, mul-le-mul_right, add-le-add}
use native.Mathlib.Decide.{dec_le}
use lib.Dec.{T, lit≤}
use lib.Pow.{pow_pos}
use lib.Ieee.{Float, binary64, div, lt, fits}
use lib.Ieee.Fits.{div-fits}
use Rattle.ieee754.specs.Bound.{AtMost}
use Rattle.ieee754.specs.Units.{not_negative}
use Rattle.ieee754.specs.Closeness.{Near}
use Rattle.ieee754.proofs.Bounds.{at_most_finite}
use Rattle.ieee754.proofs.Closeness.{near_scale, Squared}
use Rattle.ieee754.proofs.Units.{not_negative_finite, at_most_one_units}
use Rattle.ieee754.proofs.Operations.{quotient_close, quotient_at_most_one}
use Rattle.sphericalpoint.specs.declared.SphericalPoint.{SphericalPoint}
use Rattle.sphericalpoint.specs.Vector.{equality_tolerance, xyz_mul, xyz_div, xyz_sum, xyz_length, normalized}
use Rattle.sphericalpoint.specs.Point.{pick_point, normalized_unless_short}
use Rattle.square_root.specs.NearestRoot.{in_units}
use Rattle.square_root.proofs.NearestLaw.{sqrt_nearest}
use Rattle.unit_length.specs.UnitPoint.{IsF64, InRange, Short, Long, squares, square_of_one, Within, UnitPoint}
use Rattle.unit_length.specs.UnitLaws.{NormalizedIsUnit, NormalizedTwiceIsUnit, VertexOnce, VertexTwice}
use Rattle.unit_length.proofs.Assembly.{quotient_squared, all_over_lem, all_under_lem, total, within_cancel, within_49}
use Rattle.unit_length.proofs.Tolerance.{long_units, units_long}
use Rattle.unit_length.proofs.Length.{all_squares, len, all_fits, all_sign, shorter, squares_near_length}

-- ---- the computed length, an `f64` that is not negative

length_is : (a : SphericalPoint) → xyz_length a ≡ len a
unfolding xyz_length xyz_sum xyz_mul
length_is a = refl

-- ---- the law

normalized_fits : (a : SphericalPoint) → IsF64 (normalized a)
unfolding normalized xyz_div
normalized_fits a = record {
  x_fits = div-fits binary64 a.x (xyz_length a);
  y_fits = div-fits binary64 a.y (xyz_length a);
  z_fits = div-fits binary64 a.z (xyz_length a);
}

module _ (a : SphericalPoint) (h : IsF64 a) (r : InRange a) where
  abbrev l : ℕ
  l = in_units (len a)

  len_fits : T (fits binary64 (len a))
  len_fits = (sqrt_nearest (all_squares a) (all_fits a h r) (all_sign a h r)).held

  len_sign : T (not_negative (len a))
  len_sign = (sqrt_nearest (all_squares a) (all_fits a h r) (all_sign a h r)).from_zero

  long_is : Long a → 2 ^ 1039 ≤ l
  long_is g = long_units (len a) len_fits len_sign (subst (λ (z : Float). T (not (lt z equality_tolerance))) (length_is a) g)

  module _ (long : 2 ^ 1039 ≤ l) where
    some : 0 < l
    some = le_trans (lit≤ {m = 1} {n = 2 ^ 1039} tt) long

    short : (in_units a.x ≤ l) × (in_units a.y ≤ l) × (in_units a.z ≤ l)
    short = shorter a h r l (le_trans (lit≤ {m = 2 ^ 600} {n = 2 ^ 1039} tt) long) (le_refl l)

    -- of a coordinate v
    quotient_within : (v : Float) → T (fits binary64 v) → AtMost 0 v → in_units v ≤ l → AtMost 0 (div binary64 v (len a))
    quotient_within v f k s = quotient_at_most_one binary64 v (len a) f len_fits (at_most_finite 0 v k) some s

    slip : (v : Float) → T (fits binary64 v) → AtMost 0 v → in_units v ≤ l
        → Squared 64 (2 ^ 53) (in_units v * 2 ^ 1074) (in_units (div binary64 v (len a)) * l) (2 ^ 1074 * (l * l))
    slip v f k s =
        let within = quotient_within v f k s in
        quotient_squared
        (quotient_close binary64 v (len a) f len_fits (not_negative_finite (len a) len_sign) (at_most_finite 0 (div binary64 v (len a)) within)) s
        (at_most_one_units binary64 (div binary64 v (len a)) within) (pow_pos 1074)

    length_scaled : Near (2 ^ 59) 325 (squares a * (2 ^ 1074 * 2 ^ 1074)) (2 ^ 1074 * 2 ^ 1074 * (l * l))
    length_scaled =
        subst (λ (n : ℕ). Near (2 ^ 59) 325 (squares a * (2 ^ 1074 * 2 ^ 1074)) n) (mul_comm (l * l) (2 ^ 1074 * 2 ^ 1074))
        (near_scale (2 ^ 1074 * 2 ^ 1074) (squares_near_length a h r long))

    divided_near : (p q s : ℕ)
        → Squared 64 (2 ^ 53) (in_units a.x * 2 ^ 1074) (p * l) (2 ^ 1074 * (l * l))
        → Squared 64 (2 ^ 53) (in_units a.y * 2 ^ 1074) (q * l) (2 ^ 1074 * (l * l))
        → Squared 64 (2 ^ 53) (in_units a.z * 2 ^ 1074) (s * l) (2 ^ 1074 * (l * l))
        → Within 50 (p * p + q * q + s * s) (2 ^ 1074 * 2 ^ 1074)
    divided_near p q s i j k =
        let room : 960 * 2 ^ 53 ≤ 2 ^ 1074 = lit≤ tt in
        within_cancel (l * l)
        (total (mul-pos (mul-pos (pow_pos 1074) (pow_pos 1074)) (mul-pos some some))
        (all_over_lem (in_units a.x) (in_units a.y) (in_units a.z) p q s l (2 ^ 1074) i j k room)
        (all_under_lem (in_units a.x) (in_units a.y) (in_units a.z) p q s l (2 ^ 1074) i j k room)
        length_scaled)

    divided_in_range : InRange (xyz_div a (len a))
    unfolding xyz_div
    divided_in_range = record {
      x_in_range = quotient_within a.x h.x_fits r.x_in_range short.0;
      y_in_range = quotient_within a.y h.y_fits r.y_in_range short.1;
      z_in_range = quotient_within a.z h.z_fits r.z_in_range short.2;
    }

    divided_within : Within 50 (squares (xyz_div a (len a))) square_of_one
    unfolding xyz_div
    divided_within =
        divided_near (in_units (div binary64 a.x (len a))) (in_units (div binary64 a.y (len a))) (in_units (div binary64 a.z (len a)))
        (slip a.x h.x_fits r.x_in_range short.0)
        (slip a.y h.y_fits r.y_in_range short.1)
        (slip a.z h.z_fits r.z_in_range short.2)

  normalized-in_range : Long a → InRange (normalized a)
  unfolding normalized
  normalized-in_range g = rw length_is (divided_in_range (long_is g))

  normalized-within : Long a → Within 50 (squares (normalized a)) square_of_one
  unfolding normalized
  normalized-within g = rw length_is (divided_within (long_is g))

  normalized-unit : Long a → UnitPoint (normalized a)
  normalized-unit g = record { is_f64 = normalized_fits a; in-range = normalized-in_range g; near_one = within_49 (normalized-within g) }

  -- a point of length 1, nearly, has a computed length that is not below 3e-11
  unit_long : Within 49 (squares a) square_of_one → Long a
  unit_long n =
      subst (λ (z : Float). T (not (lt z equality_tolerance))) (sym (length_is a)) (units_long (len a) len_fits len_sign (go (dec_le (2 ^ 1040) l)))
    where
      small : l ≤ 2 ^ 1040 → squares a ≤ 2 ^ 1040 * 2 ^ 1040 + 2 ^ 1040 * 2 ^ 1040 + 2 ^ 1040 * 2 ^ 1040
      small k =
          let s = shorter a h r (2 ^ 1040) (lit≤ tt) k in
          add-le-add (add-le-add (mul-le-mul s.0 s.0) (mul-le-mul s.1 s.1)) (mul-le-mul s.2 s.2)

      too_small : squares a ≤ 2 ^ 1040 * 2 ^ 1040 + 2 ^ 1040 * 2 ^ 1040 + 2 ^ 1040 * 2 ^ 1040 → ⊥
      too_small k =
          not-le_of_lt n.not_below
          (le_trans (add-le-add (mul-le-mul_right (2 ^ 49) k) (le_refl (2 ^ 2148)))
          (lit≤ {m = (2 ^ 1040 * 2 ^ 1040 + 2 ^ 1040 * 2 ^ 1040 + 2 ^ 1040 * 2 ^ 1040) * 2 ^ 49 + 2 ^ 2148} {n = 2 ^ 2148 * 2 ^ 49} tt))

      go : Dec (2 ^ 1040 ≤ l) → 2 ^ 1040 ≤ l
      go (yes k) = k
      go (no k) = absurd (too_small (small (le_of_lt (lt_of_not-le k))))

-- ---- once
pub normalized_is_unit : NormalizedIsUnit
normalized_is_unit = normalized-unit

pub within_50 : (a : SphericalPoint) → IsF64 a → InRange a → Long a → Within 50 (squares (normalized a)) square_of_one
within_50 = normalized-within

-- ---- and once more
normalized_long : (a : SphericalPoint) → IsF64 a → InRange a → Long a → Long (normalized a)
normalized_long a h r l = let u = normalized-unit a h r l in unit_long (normalized a) u.is_f64 u.in-range u.near_one

pub normalized_twice_is_unit : NormalizedTwiceIsUnit
normalized_twice_is_unit a h r l =
    let u = normalized-unit a h r l in normalized-unit (normalized a) u.is_f64 u.in-range (normalized_long a h r l)

pub twice_within_50 : (a : SphericalPoint) → IsF64 a → InRange a → Long a → Within 50 (squares (normalized (normalized a))) square_of_one
twice_within_50 a h r l = normalized-within (normalized a) (normalized_fits a) (normalized-in_range a h r l) (normalized_long a h r l)

-- ---- as `MultiSphericalPoint::try_from` normalises
picked : (b : Bool) (p q : SphericalPoint) → T (not b) → pick_point b p q ≡ q
picked true p q t = absurd t
picked false p q t = refl

left : (b : Bool) (p q : SphericalPoint) → T b → pick_point b p q ≡ p
left true p q t = refl
left false p q t = absurd t

divided : (a : SphericalPoint) → Long a → normalized_unless_short a ≡ normalized a
unfolding normalized_unless_short
divided a l = picked (lt (xyz_length a) equality_tolerance) a (normalized a) l

kept : (a : SphericalPoint) → Short a → normalized_unless_short a ≡ a
unfolding normalized_unless_short
kept a s = left (lt (xyz_length a) equality_tolerance) a (normalized a) s

pub vertex_once : VertexOnce
vertex_once a h r = record { long_is_unit = λ l. rw (divided a l) (normalized-unit a h r l); short_stays = kept a }

pub vertex_twice : VertexTwice
vertex_twice a h r = record {
  long_is_unit = λ l. rw (divided a l, divided (normalized a) (normalized_long a h r l)) (normalized_twice_is_unit a h r l);
  short_stays = λ s. ap normalized_unless_short (kept a s) ∙ kept a s;
}
