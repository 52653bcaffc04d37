-- For two legs with coordinates from -1 to 1 the meeting point and the four side values are finite: no NaN, no infinity. So each side value is exactly one of
-- zero, above zero and below zero. Assumes nothing.
use mathlib.Core.Path.{◌≡◌, refl, sym, subst}
use mathlib.Core.Bool.{Bool, true, false}
use mathlib.Core.List.Memᴰ
use mathlib.Core.List.{[], ◌∷◌, Memᴰ}
use Prim.Native.Nat.{ℕ, zero, suc, ◌+◌, ◌*◌, ◌≤◌, ◌<◌}
use native.Mathlib.Nat.{mul-pos}
use native.Mathlib.Omega.{arith}
use lib.Dec.{T}
use lib.IntN.{ℤ, pos}
use lib.Ieee.{Float, nan, inf, fin, binary64, up, down, add, sub, mul, lt}
use lib.Ieee.Fits.{up_pos}
use borrow.Author.Tests.{lt-ltb, le-ltb}
use Rattle.ieee754.specs.Bound.{AtMost}
use Rattle.ieee754.specs.Value.{zero_float, is_zero}
use Rattle.ieee754.proofs.ByValue.{zero_times}
use Rattle.ieee754.proofs.Comparisons.{lt-value}
use Rattle.ieee754.proofs.Bounds.{neg_at_most, mul_at_most, add_at_most, sub_at_most}
use Rattle.sphericalpoint.specs.declared.SphericalPoint.{SphericalPoint}
use Rattle.sphericalpoint.specs.Vector.{xyz_mul, xyz_neg, xyz_sum, xyz_dot, xyz_cross}
use Rattle.arcstring_check.specs.Check.{in_range}
use Rattle.arcstring_check.proofs.Checks.{range_bound}
use Rattle.arcstring.specs.Leg.{Leg}
use Rattle.arcstring_sides.specs.Sides.{is_above, is_below}
use Rattle.arcstring_pair.specs.Pair.{normal, meeting, side_from, side_to, side_values}
use Rattle.arcstring_pair.specs.FiniteLaws.{EachAtMost, ExactlyOne, only_first, only_second, only_third}

-- ---- bounds on the size of a vector's coordinates

neg_bound : (k : ℕ) (u : SphericalPoint) → EachAtMost k u → EachAtMost k (xyz_neg u)
unfolding xyz_neg
neg_bound k u h = record { x = neg_at_most k u.x h.x; y = neg_at_most k u.y h.y; z = neg_at_most k u.z h.z }

module _ (a b : ℕ) (u v : SphericalPoint) (h : EachAtMost a u) (k : EachAtMost b v) where
  module _ (r : suc (a + b) ≤ 1023) where
    product_bound : (x y : Float) → AtMost a x → AtMost b y → AtMost (a + b) (mul binary64 x y)
    product_bound x y p q = mul_at_most binary64 a b x y (omega arith) p q

    minor_bound : (x y z w : Float) → AtMost a x → AtMost b y → AtMost a z → AtMost b w → AtMost (suc (a + b))
        (sub binary64 (mul binary64 x y) (mul binary64 z w))
    minor_bound x y z w p q m n =
        sub_at_most binary64 (a + b) (a + b) (a + b) (mul binary64 x y) (mul binary64 z w) (omega arith) (omega arith) r (product_bound x y p q)
        (product_bound z w m n)

    cross_bound : EachAtMost (suc (a + b)) (xyz_cross u v)
    unfolding xyz_cross
    cross_bound =
        record {
          x = minor_bound u.y v.z u.z v.y h.y k.z h.z k.y;
          y = minor_bound u.z v.x u.x v.z h.z k.x h.x k.z;
          z = minor_bound u.x v.y u.y v.x h.x k.y h.y k.x;
        }

  dot_bound : suc (suc (a + b)) ≤ 1023 → AtMost (suc (suc (a + b))) (xyz_dot u v)
  unfolding xyz_dot xyz_sum xyz_mul
  dot_bound r =
      let s : suc (a + b) ≤ 1023 = omega arith in
      let x = mul binary64 u.x v.x in
      let y = mul binary64 u.y v.y in
      let z = mul binary64 u.z v.z in
      add_at_most binary64 (suc (a + b)) (a + b) (suc (a + b)) (add binary64 x y) z (omega arith) (omega arith) r
      (add_at_most binary64 (a + b) (a + b) (a + b) x y (omega arith) (omega arith) s (product_bound s u.x v.x h.x k.x)
      (product_bound s u.y v.y h.y k.y))
      (product_bound s u.z v.z h.z k.z)

-- ---- legs in range

pub record PointInRange (p : SphericalPoint) : Type 0 where
  pub x : T (in_range p.x)
  pub y : T (in_range p.y)
  pub z : T (in_range p.z)

pub record LegInRange (l : Leg) : Type 0 where
  pub from : PointInRange l.from
  pub to : PointInRange l.to

point_bound : (p : SphericalPoint) → PointInRange p → EachAtMost 0 p
point_bound p h = record { x = range_bound p.x h.x; y = range_bound p.y h.y; z = range_bound p.z h.z }

module _ (l : Leg) (h : LegInRange l) where
  normal_bound : EachAtMost 1 (normal l)
  unfolding normal
  normal_bound = cross_bound 0 0 l.from l.to (point_bound l.from h.from) (point_bound l.to h.to) (omega arith)

  arm_bound : (p : SphericalPoint) → PointInRange p → EachAtMost 2 (xyz_cross p (normal l))
  arm_bound p i = cross_bound 0 1 p (normal l) (point_bound p i) normal_bound (omega arith)

  module _ (t : SphericalPoint) (k : EachAtMost 3 t) where
    side_from_bound : AtMost 7 (side_from l t)
    unfolding side_from
    side_from_bound =
        let w = xyz_cross l.from (normal l) in
        dot_bound 2 3 (xyz_neg w) t (neg_bound 2 w (arm_bound l.from h.from)) k (omega arith)

    side_to_bound : AtMost 7 (side_to l t)
    unfolding side_to
    side_to_bound = dot_bound 2 3 (xyz_cross l.to (normal l)) t (arm_bound l.to h.to) k (omega arith)

-- ---- a finite float is zero, above zero or below zero

abbrev OneOf : Float → Type 0
OneOf x = ExactlyOne (is_zero x) (is_above x) (is_below x)

zero_side : (s : Bool) (e : ℤ) → OneOf (fin s zero e)
unfolding is_above is_below
zero_side s e =
    let x = fin s zero e in
    rw (lt-value zero_float zero_float x zero_float refl refl, lt-value x zero_float zero_float zero_float refl refl) (unfold lt in only_first)

module _ (m : ℕ) (e : ℤ) where
  -- zero and a number above it, as the comparisons write them
  naught : 0 * up (pos 0) * down e ≡ 0
  naught = zero_times (up (pos 0)) (down e)

  above : 0 < suc m * up e * down (pos 0)
  above = mul-pos (mul-pos (omega arith) (up_pos e)) (omega arith)

  above_side : OneOf (fin false (suc m) e)
  unfolding is_above is_below lt
  above_side =
      let z = 0 * up (pos 0) * down e in
      let n = suc m * up e * down (pos 0) in
      rw (lt-ltb z n (omega (arith, naught, above)), le-ltb n z (omega (arith, naught, above))) only_second

  below_side : OneOf (fin true (suc m) e)
  unfolding is_above is_below lt
  below_side =
      let z = 0 * up (pos 0) * down e in
      let n = suc m * up e * down (pos 0) in
      rw (lt-ltb 0 (n + z) (omega (arith, naught, above))) only_third

side_of : (x : Float) (k : ℕ) → AtMost k x → OneOf x
side_of nan k h = absurd h
side_of (inf s) k h = absurd h
side_of (fin s zero e) k h = zero_side s e
side_of (fin false (suc m) e) k h = above_side m e
side_of (fin true (suc m) e) k h = below_side m e

-- ---- the meeting point and the side values

among_four : (P : Float → Type 0) {s1 s2 s3 s4 : Float} (x : Float) → P s1 → P s2 → P s3 → P s4 → Memᴰ x (s1 ∷ s2 ∷ s3 ∷ s4 ∷ []) → P x
among_four P x p1 p2 p3 p4 (Memᴰ.head q) = subst P (sym q) p1
among_four P x p1 p2 p3 p4 (Memᴰ.tail (Memᴰ.head q)) = subst P (sym q) p2
among_four P x p1 p2 p3 p4 (Memᴰ.tail (Memᴰ.tail (Memᴰ.head q))) = subst P (sym q) p3
among_four P x p1 p2 p3 p4 (Memᴰ.tail (Memᴰ.tail (Memᴰ.tail m))) = subst P (sym (Memᴰ.eq_of_singleton m)) p4

module _ (a b : Leg) (h : LegInRange a) (k : LegInRange b) where
  pub meeting_finite : EachAtMost 3 (meeting a b)
  unfolding meeting
  meeting_finite = cross_bound 1 1 (normal a) (normal b) (normal_bound a h) (normal_bound b k) (omega arith)

  pub sides_finite : (x : Float) → Memᴰ x (side_values a b (meeting a b)) → AtMost 7 x
  unfolding side_values
  sides_finite x m =
      let t = meeting a b in
      among_four (AtMost 7) x (side_from_bound a h t meeting_finite) (side_to_bound a h t meeting_finite) (side_from_bound b k t meeting_finite)
      (side_to_bound b k t meeting_finite) m

  pub side_trichotomy : (x : Float) → Memᴰ x (side_values a b (meeting a b)) → ExactlyOne (is_zero x) (is_above x) (is_below x)
  side_trichotomy x m = side_of x 7 (sides_finite x m)
