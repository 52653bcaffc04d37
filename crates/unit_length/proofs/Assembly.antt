-- From the slips of the steps to that of the whole, over whole numbers. x, y and z are the coordinates, l the length, and p, q and r the normalised
-- coordinates, in units of 1 / m. Assumes nothing.
use Prim.Native.Nat.{ℕ, ◌+◌, ◌*◌, ◌^◌, ◌≤◌, ◌<◌}
use native.Mathlib.Nat.{lt_of_mul-lt-mul_right, mul-le-mul_right}
use native.Mathlib.Omega.{arith}
use Rattle.ieee754.specs.Closeness.{Close, Near}
use Rattle.ieee754.proofs.Closeness.{Squared, squared}
use Rattle.unit_length.specs.UnitPoint.{Within}

-- ---- the three quotients

pub quotient_squared : {x p l m : ℕ} → Close (2 ^ 53) (x * m) (p * l) l → x ≤ l → p ≤ m → 1 ≤ m → Squared 64 (2 ^ 53) (x * m) (p * l) (m * (l * l))
quotient_squared {x} {p} {l} {m} h xl pm one =
    squared (omega arith) h
    (omega (arith, mul-le-mul_right (l * l) pm)) (omega (arith, mul-le-mul_right (m * l) xl)) (omega (arith, mul-le-mul_right (l * l) one))
    64 (omega arith)

abbrev pub three : ℕ → ℕ → ℕ → ℕ
three x y z = x * x + y * y + z * z

module _ (x y z p q r l m : ℕ) (X : Squared 64 (2 ^ 53) (x * m) (p * l) (m * (l * l))) (Y : Squared 64 (2 ^ 53) (y * m) (q * l) (m * (l * l)))
    (Z : Squared 64 (2 ^ 53) (z * m) (r * l) (m * (l * l))) (room : 960 * 2 ^ 53 ≤ m) where
  slips : 960 * (2 ^ 53 * (m * (l * l))) ≤ m * m * (l * l)
  slips = omega (arith, mul-le-mul_right (m * (l * l)) room)

  pub all_over_lem : 2 ^ 59 * (three x y z * (m * m)) ≤ 2 ^ 59 * (three p q r * (l * l)) + 129 * (three p q r * (l * l)) + m * m * (l * l)
  all_over_lem = omega (arith, X.over, Y.over, Z.over, slips)

  pub all_under_lem : 2 ^ 59 * (three p q r * (l * l)) ≤ 2 ^ 59 * (three x y z * (m * m)) + 129 * (three p q r * (l * l)) + m * m * (l * l)
  all_under_lem = omega (arith, X.under, Y.under, Z.under, slips)

-- ---- all together: b is the sum of the squares of the quotients, and c is 1

not_much_more : (a b c : ℕ) → 2 ^ 59 * b ≤ 2 ^ 59 * a + 129 * b + c → 2 ^ 59 * a ≤ 2 ^ 59 * c + 325 * c → 4 * b ≤ 5 * c
not_much_more a b c h k = omega arith

-- the parts, in 64ths of 2 ^ -53: 325 and 1 and 5 / 4 of 129 are less than 488, and 2 ^ -50 is 512 of them
by_parts : (w a b c : ℕ) → 0 < c → 4 * b ≤ 5 * c → w * a ≤ w * b + 129 * b + c → w * b ≤ w * a + 129 * b + c → Near w 325 a c
    → (w * b < w * c + 512 * c) × (w * c < w * b + 512 * c)
by_parts w a b c p t h k n = omega arith

above_by : (b c : ℕ) → 2 ^ 59 * b < 2 ^ 59 * c + 512 * c → b * 2 ^ 50 < c * 2 ^ 50 + c
above_by b c h = omega arith

below_by : (b c : ℕ) → 2 ^ 59 * c < 2 ^ 59 * b + 512 * c → c * 2 ^ 50 < b * 2 ^ 50 + c
below_by b c h = omega arith

pub total : {a b c : ℕ} → 0 < c → 2 ^ 59 * a ≤ 2 ^ 59 * b + 129 * b + c → 2 ^ 59 * b ≤ 2 ^ 59 * a + 129 * b + c → Near (2 ^ 59) 325 a c → Within 50 b c
total {a} {b} {c} p h k n =
    let s = by_parts (2 ^ 59) a b c p (not_much_more a b c k n.over) h k n in
    record { not_above = above_by b c s.0; not_below = below_by b c s.1 }

pub within_cancel : {n k : ℕ} (c : ℕ) → Within 50 (n * c) (k * c) → Within 50 n k
within_cancel {n} {k} c h = record {
  not_above = lt_of_mul-lt-mul_right c {m = n * 2 ^ 50} {n = k * 2 ^ 50 + k} (omega (arith, h.not_above));
  not_below = lt_of_mul-lt-mul_right c {m = k * 2 ^ 50} {n = n * 2 ^ 50 + k} (omega (arith, h.not_below));
}

-- within a half is within the whole
above_49 : (n c : ℕ) → n * 2 ^ 50 < c * 2 ^ 50 + c → n * 2 ^ 49 < c * 2 ^ 49 + c
above_49 n c h = omega arith

below_49 : (n c : ℕ) → c * 2 ^ 50 < n * 2 ^ 50 + c → c * 2 ^ 49 < n * 2 ^ 49 + c
below_49 n c h = omega arith

pub within_49 : {n c : ℕ} → Within 50 n c → Within 49 n c
within_49 {n} {c} h = record { not_above = above_49 n c h.not_above; not_below = below_49 n c h.not_below }
