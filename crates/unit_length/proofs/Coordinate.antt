-- A coordinate is no longer than the computed length, unless it is tiny: as whole numbers of units of 2 ^ -1074, and with no error at all. Assumes nothing.
-- A float below x is below it by the 2 ^ -53rd part of x at least, so the rounded root of x * x, rounded, cannot be below x.
use mathlib.Core.Path.{sym, subst}
use Prim.Native.Nat.{ℕ, ◌+◌, ◌-◌, ◌*◌, ◌^◌, ◌≤◌, ◌<◌}
use native.Mathlib.Nat.{le_trans, le_of_lt, lt_of_not-le, mul-pos, mul-le-mul, mul-le-mul_left, mul-le-mul_right}
use native.Mathlib.Decide.{dec_le}
use native.Mathlib.Omega.{arith}
use lib.Dec.{T, lit≤}
use lib.Pow.{pow_pos}
use lib.Ieee.{Float, binary64, fits}
use lib.Ieee.Scale.{finite}
use Rattle.ieee754.specs.Size.{abs}
use Rattle.ieee754.specs.Units.{not_negative}
use Rattle.ieee754.specs.Closeness.{Close}
use Rattle.ieee754.proofs.Units.{abs_units, abs_fits, abs-not_negative}
use Rattle.ieee754.proofs.Spacing.{gap_below}
use Rattle.square_root.specs.Sqrt.{sqrt_of}
use Rattle.square_root.specs.NearestRoot.{in_units, NearestRoot}
use Rattle.square_root.proofs.NearestLaw.{sqrt_nearest}

-- ---- the numbers alone, with u = v + 1 for 2 ^ 53, q = x * x, and s the number under the root, in units of a square

reach : (v l x s : ℕ) → (v + 1) * l + x ≤ (v + 1) * x → 4 * s < (l + x) * (l + x) → (v + 1) * (v + 1) * (4 * s) ≤ (2 * v + 1) * (2 * v + 1) * (x * x)
reach v l x s g h =
    let k : (v + 1) * (l + x) ≤ (2 * v + 1) * x = omega arith in
    omega (arith, mul-le-mul k k, mul-le-mul_left ((v + 1) * (v + 1)) (le_of_lt h))

cubes : (v q s m : ℕ) → (v + 1) * (v + 1) * (4 * s) ≤ (2 * v + 1) * (2 * v + 1) * q → (v + 1) * q ≤ (v + 1) * s + s + (v + 1) * m
    → (3 * v + 2) * q ≤ 4 * ((v + 1) * (v + 1) * (v + 1) * m)
cubes v q s m h k = omega (arith, mul-le-mul_left (v + 2) h, mul-le-mul_left (4 * ((v + 1) * (v + 1))) k)

too_small : (v q m : ℕ) → 0 < v → 0 < m → 2 * ((v + 1) * (v + 1) * m) ≤ q → (3 * v + 2) * q ≤ 4 * ((v + 1) * (v + 1) * (v + 1) * m) → ⊥
too_small v q m p n h k =
    let b : 0 < v * ((v + 1) * (v + 1) * m) = mul-pos p (mul-pos (mul-pos (omega arith) (omega arith)) n) in
    omega (arith, mul-le-mul_left (3 * v + 2) h)

never_below : (v l x s m : ℕ) → 0 < v → 0 < m → (v + 1) * l + x ≤ (v + 1) * x → 4 * s < (l + x) * (l + x) → (v + 1) * (x * x) ≤ (v + 1) * s + s + (v + 1) * m
    → 2 * ((v + 1) * (v + 1) * m) ≤ x * x → ⊥
never_below v l x s m p n g h k b = too_small v (x * x) m p n b (cubes v (x * x) s m (reach v l x s g h) k)

-- ---- the law: p is x * x rounded, and t is no less

module _ (x t : Float) (p : ℕ) (F : T (fits binary64 x)) (f : T (finite x)) (G : T (fits binary64 t)) (n : T (not_negative t))
    (c : Close (2 ^ 53) (in_units x * in_units x) (p * 2 ^ 1074) (2 ^ 1074)) (h : p ≤ in_units t) (big : 2 ^ 600 ≤ in_units x) where
  square_big : 2 * (2 ^ 53 * 2 ^ 53 * 2 ^ 1074) ≤ in_units x * in_units x
  square_big = le_trans (lit≤ {m = 2 * (2 ^ 53 * 2 ^ 53 * 2 ^ 1074)} {n = 2 ^ 600 * 2 ^ 600} tt) (mul-le-mul big big)

  near_sum : 2 ^ 53 * (in_units x * in_units x) ≤ 2 ^ 53 * (in_units t * 2 ^ 1074) + in_units t * 2 ^ 1074 + 2 ^ 53 * 2 ^ 1074
  near_sum = go (in_units x * in_units x) p (in_units t) (2 ^ 1074) c.above h
    where
      go : (q p t m : ℕ) → 2 ^ 53 * q ≤ 2 ^ 53 * (p * m) + p * m + 2 ^ 53 * m → p ≤ t → 2 ^ 53 * q ≤ 2 ^ 53 * (t * m) + t * m + 2 ^ 53 * m
      go q p t m a b = omega (arith, mul-le-mul_right m b)

  law : NearestRoot t (sqrt_of t)
  law = sqrt_nearest t G n

  pub coordinate_le : in_units x ≤ in_units (sqrt_of t)
  coordinate_le = go (dec_le (in_units x) (in_units (sqrt_of t)))
    where
      -- the root is nearer to its rounded value than to x
      nearer : in_units (sqrt_of t) < in_units x → 4 * (in_units t * 2 ^ 1074) < (in_units (sqrt_of t) + in_units x) * (in_units (sqrt_of t) + in_units x)
      nearer g =
          let e = abs_units binary64 x in
          subst (λ (z : ℕ). 4 * (in_units t * 2 ^ 1074) < (in_units (sqrt_of t) + z) * (in_units (sqrt_of t) + z)) e
          (law.larger (abs x) (abs_fits binary64 x F) (abs-not_negative x f) (subst (λ (z : ℕ). in_units (sqrt_of t) < z) (sym e) g))

      impossible : in_units (sqrt_of t) < in_units x → ⊥
      impossible g =
          never_below (2 ^ 53 - 1) (in_units (sqrt_of t)) (in_units x) (in_units t * 2 ^ 1074) (2 ^ 1074) (lit≤ tt) (pow_pos 1074)
          (gap_below binary64 (sqrt_of t) x law.held F g) (nearer g) near_sum square_big

      go : Dec (in_units x ≤ in_units (sqrt_of t)) → in_units x ≤ in_units (sqrt_of t)
      go (yes k) = k
      go (no k) = absurd (impossible (lt_of_not-le k))
