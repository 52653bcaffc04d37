-- Whole numbers that are near each other: sums, chains, squares and roots of such. Nothing here is about floats. Assumes nothing.
use mathlib.Core.Path.{◌≡◌, ap}
use Prim.Native.Nat.{ℕ, ◌+◌, ◌-◌, ◌*◌, ◌≤◌, ◌<◌}
use native.Mathlib.Nat.{mul-le-mul, mul-le-mul_left, mul-le-mul_right, le_of_mul-le-mul_right}
use native.Mathlib.Omega.{arith}
use Rattle.ieee754.specs.Closeness.{Close, Near}

-- ---- close

pub close_sum : {u a b e a' b' e' : ℕ} → Close u a b e → Close u a' b' e' → Close u (a + a') (b + b') (e + e')
close_sum h k = omega arith

pub close_self : (u a : ℕ) → Close u a a 0
close_self u a = omega arith

pub close_cancel : {u a b e : ℕ} (c : ℕ) → 0 < c → Close u (a * c) (b * c) (e * c) → Close u a b e
close_cancel {u} {a} {b} {e} c p h = record {
  above = le_of_mul-le-mul_right {m = u * a} {n = u * b + b + u * e} (omega (arith, h.above)) p;
  below = le_of_mul-le-mul_right {m = u * b} {n = u * a + b + u * e} (omega (arith, h.below)) p;
}

-- ---- near, where the u-th part is counted in g-ths

-- where there is no slip
pub near_of_exact : {u a b : ℕ} (g : ℕ) → Close u a b 0 → Near (g * u) g a b
near_of_exact {u} {a} {b} g h = omega (arith, mul-le-mul_left g h.above, mul-le-mul_left g h.below)

-- where the slip e is small beside b
pub near_of_close : {u a b e : ℕ} (g : ℕ) → g * u * e ≤ b → Close u a b e → Near (g * u) (g + 1) a b
near_of_close {u} {a} {b} {e} g l h = omega (arith, mul-le-mul_left g h.above, mul-le-mul_left g h.below)

pub near_scale : {w k a b : ℕ} (c : ℕ) → Near w k a b → Near w k (a * c) (b * c)
near_scale {w} {k} {a} {b} c h = omega (arith, mul-le-mul_right c h.over, mul-le-mul_right c h.under)

over_both : (w k j a b e : ℕ) → k * j ≤ w → Near w k a b → Near w j b e → w * (w * a) ≤ w * (w * e + (k + j + 1) * e)
over_both w k j a b e l h i =
    omega (arith, mul-le-mul_left w h.over, mul-le-mul_left w i.over, mul-le-mul_left k i.over, mul-le-mul_right e l)

under_both : (w k j a b e : ℕ) → k * j ≤ w → Near w k a b → Near w j b e → w * (w * e) ≤ w * (w * a + (k + j + 1) * e)
under_both w k j a b e l h i =
    omega (arith, mul-le-mul_left w h.under, mul-le-mul_left w i.under, mul-le-mul_left k i.over, mul-le-mul_right e l)

-- one after the other: the parts add up, and one more for their product
pub near_trans : {w k j a b e : ℕ} → 0 < w → k * j ≤ w → Near w k a b → Near w j b e → Near w (k + j + 1) a e
near_trans {w} {k} {j} {a} {b} {e} p l h i = record {
  over = le_of_mul-le-mul_right (omega (arith, over_both w k j a b e l h i)) p;
  under = le_of_mul-le-mul_right (omega (arith, under_both w k j a b e l h i)) p;
}

pub near_half : {w k a b : ℕ} → 0 < w → 2 * k ≤ w → Near w k a b → b ≤ 2 * a
near_half {w} {k} {a} {b} p l h = le_of_mul-le-mul_right {m = b} {n = 2 * a} (omega (arith, h.under, mul-le-mul_right b l)) p

-- ---- squares of numbers that are close: d is a bound of what the slip comes to

pub record Squared (g u a b d : ℕ) : Type 0 where
  pub over : g * u * (a * a) ≤ g * u * (b * b) + (2 * g + 1) * (b * b) + 5 * g * (u * d)
  pub under : g * u * (b * b) ≤ g * u * (a * a) + (2 * g + 1) * (b * b) + 5 * g * (u * d)

module _ {u a b e d : ℕ} (some : 0 < u) (h : Close u a b e) (be : b * e ≤ d) (ae : a * e ≤ d) (ee : e * e ≤ d) where
  square_over : u * u * (a * a) ≤ u * u * (b * b) + 2 * (u * (b * b)) + b * b + 5 * (u * u * d)
  square_over =
      let square = mul-le-mul h.above h.above in
      omega (arith, square, mul-le-mul_left (u * d) some, mul-le-mul_left (u * u) be, mul-le-mul_left u be, mul-le-mul_left (u * u) ee)

  -- u is v + 1
  less_one : (v : ℕ) → u ≡ v + 1 → v * b ≤ u * (a + e)
  less_one v q = omega (arith, h.below, ap (λ (z : ℕ). z * b) q)

  square_under_at : (v : ℕ) → u ≡ v + 1 → u * u * (b * b) ≤ u * u * (a * a) + 2 * (u * (b * b)) + 5 * (u * u * d)
  square_under_at v q =
      let square = mul-le-mul (less_one v q) (less_one v q) in
      let first = ap (λ (z : ℕ). z * u * (b * b)) q in
      let second = ap (λ (z : ℕ). z * v * (b * b)) q in
      let third = ap (λ (z : ℕ). z * (b * b)) q in
      omega (arith, square, first, second, third, mul-le-mul_left (u * u) ae, mul-le-mul_left (u * u) ee)

  square_under : u * u * (b * b) ≤ u * u * (a * a) + 2 * (u * (b * b)) + 5 * (u * u * d)
  square_under = square_under_at (u - 1) (omega arith)

  pub squared : (g : ℕ) → g ≤ u → Squared g u a b d
  squared g few = record {
    over =
        le_of_mul-le-mul_right {m = g * u * (a * a)} {n = g * u * (b * b) + (2 * g + 1) * (b * b) + 5 * g * (u * d)}
        (omega (arith, mul-le-mul_left g square_over, mul-le-mul_right (b * b) few)) some;
    under =
        le_of_mul-le-mul_right {m = g * u * (b * b)} {n = g * u * (a * a) + (2 * g + 1) * (b * b) + 5 * g * (u * d)}
        (omega (arith, mul-le-mul_left g square_under)) some;
  }

-- ---- a root: r is within w / 2 of √n, and w is at most 2 / u of r
pub root_near : {u n : ℕ} (g r w : ℕ) → 4 * g ≤ u → u * w ≤ 2 * r → n ≤ r * r + r * w + w * w → r * r ≤ n + r * w → Near (g * u) (2 * g + 1) n (r * r)
root_near {u} {n} g r w big l h k =
    let s : 2 * g * w ≤ r = omega (arith, mul-le-mul_right w big) in
    omega (arith, mul-le-mul_left (g * u) h, mul-le-mul_left (g * u) k, mul-le-mul_left (g * r) l, mul-le-mul_left (g * w) l, mul-le-mul_left r s)
