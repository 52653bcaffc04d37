-- The computed length against the exact one: for a point from -1 to 1 whose computed length is 2 ^ -35 or more the sum of the squares is within 325 / 64 of its
-- 2 ^ -53rd part of the length's square; and no coordinate is longer than the computed length. Assumes nothing.
use mathlib.Core.Path.{◌≡◌, subst}
use mathlib.Core.Bool.{true, false}
use Prim.Native.Nat.{ℕ, zero, suc, ◌+◌, ◌*◌, ◌^◌, ◌≤◌, ◌<◌, zero-le}
use native.Mathlib.Nat.{le_trans, le_of_lt, lt_of_not-le, zero-lt-suc, mul-le-mul, mul-le-mul_right, le_of_mul-le-mul_right}
use native.Mathlib.Decide.{dec_le}
use native.Mathlib.Omega.{arith}
use lib.Dec.{T, lt→ltb, lit≤}
use lib.Pow.{pow_pos}
use lib.Ieee.{Float, nan, inf, fin, binary64, add, mul, fits}
use lib.Ieee.Fits.{add-fits, mul-fits}
use lib.Ieee.Positive.{positive}
use lib.Ieee.Scale.{finite}
use Rattle.ieee754.specs.Bound.{AtMost}
use Rattle.ieee754.specs.Units.{not_negative}
use Rattle.ieee754.specs.Closeness.{Close, Near}
use Rattle.ieee754.proofs.Bounds.{at_most_finite, mul_at_most, add_at_most}
use Rattle.ieee754.proofs.Closeness.{close_sum, close_self, near_of_exact, near_of_close, near_scale, near_trans, near_half}
use Rattle.ieee754.proofs.Units.{zero_units}
use Rattle.ieee754.proofs.Operations.{product_close, square_not_negative, sum_close, sum_from, sum-not_negative}
use Rattle.sphericalpoint.specs.declared.SphericalPoint.{SphericalPoint}
use Rattle.square_root.specs.Sqrt.{sqrt_of}
use Rattle.square_root.specs.NearestRoot.{in_units}
use Rattle.square_root.proofs.NearestLaw.{sqrt_nearest}
use Rattle.square_root.proofs.RootClose.{root_close}
use Rattle.unit_length.specs.UnitPoint.{IsF64, InRange, squares}
use Rattle.unit_length.proofs.Coordinate.{coordinate_le}

-- ---- a float whose root is above zero is above zero
positive_of_root : (t : Float) → T (not_negative t) → 0 < in_units (sqrt_of t) → T (positive t)
unfolding sqrt_of
positive_of_root nan p h = absurd p
positive_of_root (inf s) p h = absurd p
positive_of_root (fin true m e) p h = absurd p
positive_of_root (fin false zero e) p h = let z = zero_units binary64 false e in absurd (omega arith)
positive_of_root (fin false (suc m) e) p h = lt→ltb 0 (suc m) (zero-lt-suc m)

halves : {a b c : ℕ} → 2 * a ≤ b → b ≤ 2 * c → a ≤ c
halves h k = omega arith

-- ---- the numbers alone, with the 2 ^ -53rd part counted in 64ths: the squares x y z, these rounded p q r, the first sum s, the second t, the length's
-- square l, and m for 2 ^ 1074
module _ (x y z p q r s t l m : ℕ) (some : 0 < m)
    (X : Close (2 ^ 53) x (p * m) m) (Y : Close (2 ^ 53) y (q * m) m) (Z : Close (2 ^ 53) z (r * m) m)
    (S : Close (2 ^ 53) (p + q) s 0) (A : Close (2 ^ 53) (s + r) t 0) (R : Near (2 ^ 59) 129 (t * m) l) (long : 2 * (2 ^ 70 * m) ≤ l) where
  first : Near (2 ^ 59) 64 (p + q + r) (s + r)
  first = near_of_exact 64 (close_sum S (close_self (2 ^ 53) r))

  second : Near (2 ^ 59) 64 (s + r) t
  second = near_of_exact 64 A

  -- the slip of each square is nothing beside the sum
  t_big : 2 ^ 70 ≤ t
  t_big = le_of_mul-le-mul_right {m = 2 ^ 70} {n = t} (halves long (near_half (lit≤ tt) (lit≤ tt) R)) some

  s_big : 2 ^ 69 ≤ s + r
  s_big = halves {a = 2 ^ 69} t_big (near_half (lit≤ tt) (lit≤ tt) second)

  p_big : 2 ^ 68 ≤ p + q + r
  p_big = halves {a = 2 ^ 68} s_big (near_half (lit≤ tt) (lit≤ tt) first)

  joined : p * m + q * m + r * m ≡ (p + q + r) * m
  joined = omega arith

  squares_near : Near (2 ^ 59) 65 (x + y + z) ((p + q + r) * m)
  squares_near =
      near_of_close 64 (omega (arith, mul-le-mul_right m p_big))
      (subst (λ (n : ℕ). Close (2 ^ 53) (x + y + z) n (m + m + m)) joined (close_sum (close_sum X Y) Z))

  length_near : Near (2 ^ 59) 325 (x + y + z) l
  length_near =
      near_trans (lit≤ tt) (lit≤ tt)
      (near_trans (lit≤ tt) (lit≤ tt) (near_trans (lit≤ tt) (lit≤ tt) squares_near (near_scale m first)) (near_scale m second))
      R

-- ---- a point from -1 to 1, operation by operation

abbrev square : Float → Float
square v = mul binary64 v v

abbrev first_sum : SphericalPoint → Float
first_sum a = add binary64 (square a.x) (square a.y)

abbrev pub all_squares : SphericalPoint → Float
all_squares a = add binary64 (first_sum a) (square a.z)

abbrev pub len : SphericalPoint → Float
len a = sqrt_of (all_squares a)

square_within : (v : Float) → AtMost 0 v → AtMost 0 (square v)
square_within v k = mul_at_most binary64 0 0 v v zero-le k k

square_finite : (v : Float) → AtMost 0 v → T (finite (square v))
square_finite v k = at_most_finite 0 (square v) (square_within v k)

square_sign : (v : Float) → AtMost 0 v → T (not_negative (square v))
square_sign v k = square_not_negative binary64 v (square_finite v k)

close : (v : Float) → T (fits binary64 v) → AtMost 0 v → Close (2 ^ 53) (in_units v * in_units v) (in_units (square v) * 2 ^ 1074) (2 ^ 1074)
close v f k = product_close binary64 v v f f (square_finite v k)

module _ (a : SphericalPoint) (h : IsF64 a) (r : InRange a) where
  abbrev xx : Float
  xx = square a.x

  abbrev yy : Float
  yy = square a.y

  abbrev zz : Float
  zz = square a.z

  xx_fits : T (fits binary64 xx)
  xx_fits = mul-fits binary64 a.x a.x

  yy_fits : T (fits binary64 yy)
  yy_fits = mul-fits binary64 a.y a.y

  zz_fits : T (fits binary64 zz)
  zz_fits = mul-fits binary64 a.z a.z

  first_fits : T (fits binary64 (first_sum a))
  first_fits = add-fits binary64 xx yy

  pub all_fits : T (fits binary64 (all_squares a))
  all_fits = add-fits binary64 (first_sum a) zz

  first_within : AtMost 1 (first_sum a)
  first_within = add_at_most binary64 0 0 0 xx yy zero-le zero-le (lit≤ tt) (square_within a.x r.x_in_range) (square_within a.y r.y_in_range)

  all_within : AtMost 2 (all_squares a)
  all_within = add_at_most binary64 1 0 1 (first_sum a) zz (lit≤ tt) zero-le (lit≤ tt) first_within (square_within a.z r.z_in_range)

  first_finite : T (finite (first_sum a))
  first_finite = at_most_finite 1 (first_sum a) first_within

  all_finite : T (finite (all_squares a))
  all_finite = at_most_finite 2 (all_squares a) all_within

  first_sign : T (not_negative (first_sum a))
  first_sign = sum-not_negative binary64 xx yy xx_fits yy_fits (square_sign a.x r.x_in_range) (square_sign a.y r.y_in_range) first_finite

  pub all_sign : T (not_negative (all_squares a))
  all_sign = sum-not_negative binary64 (first_sum a) zz first_fits zz_fits first_sign (square_sign a.z r.z_in_range) all_finite

  -- a coordinate whose rounded square is no more than the sum is no longer than a bound b of the computed length from 2 ^ 600 units up
  under : (v : Float) (b : ℕ) → T (fits binary64 v) → AtMost 0 v → in_units (square v) ≤ in_units (all_squares a) → 2 ^ 600 ≤ b → in_units (len a) ≤ b
      → in_units v ≤ b
  under v b f k u big l = go (dec_le (2 ^ 600) (in_units v))
    where
      go : Dec (2 ^ 600 ≤ in_units v) → in_units v ≤ b
      go (yes g) = le_trans (coordinate_le v (all_squares a) (in_units (square v)) f (at_most_finite 0 v k) all_fits all_sign (close v f k) u g) l
      go (no g) = le_trans (le_of_lt (lt_of_not-le g)) big

  pub shorter : (b : ℕ) → 2 ^ 600 ≤ b → in_units (len a) ≤ b → (in_units a.x ≤ b) × (in_units a.y ≤ b) × (in_units a.z ≤ b)
  shorter b big l =
      let one = sum_from binary64 xx yy xx_fits yy_fits (square_sign a.x r.x_in_range) (square_sign a.y r.y_in_range) first_finite in
      let two = sum_from binary64 (first_sum a) zz first_fits zz_fits first_sign (square_sign a.z r.z_in_range) all_finite in (
        under a.x b h.x_fits r.x_in_range (le_trans one.0 two.0) big l,
        under a.y b h.y_fits r.y_in_range (le_trans one.1 two.0) big l,
        under a.z b h.z_fits r.z_in_range two.1 big l,
      )

  pub squares_near_length : 2 ^ 1039 ≤ in_units (len a) → Near (2 ^ 59) 325 (squares a) (in_units (len a) * in_units (len a))
  squares_near_length long =
      let t = positive_of_root (all_squares a) all_sign (le_trans (lit≤ {m = 1} {n = 2 ^ 1039} tt) long) in
      length_near (in_units a.x * in_units a.x) (in_units a.y * in_units a.y) (in_units a.z * in_units a.z) (in_units xx) (in_units yy) (in_units zz)
      (in_units (first_sum a)) (in_units (all_squares a)) (in_units (len a) * in_units (len a)) (2 ^ 1074) (pow_pos 1074)
      (close a.x h.x_fits r.x_in_range) (close a.y h.y_fits r.y_in_range) (close a.z h.z_fits r.z_in_range)
      (sum_close binary64 xx yy xx_fits yy_fits (square_sign a.x r.x_in_range) (square_sign a.y r.y_in_range) first_finite)
      (sum_close binary64 (first_sum a) zz first_fits zz_fits first_sign (square_sign a.z r.z_in_range) all_finite)
      (root_close 64 (lit≤ tt) (all_squares a) (len a) all_fits t (sqrt_nearest (all_squares a) all_fits all_sign))
      (le_trans (lit≤ {m = 2 * (2 ^ 70 * 2 ^ 1074)} {n = 2 ^ 1039 * 2 ^ 1039} tt) (mul-le-mul long long))
