-- Squares keep the order, both ways, a power of two has the order of its exponent, and the square of an odd number is odd. Assumes nothing.
use mathlib.Core.Path.{◌≡◌, ap}
use mathlib.Core.Logic.{◌⊎◌, inl, inr}
use Prim.Native.Nat.{ℕ, ◌+◌, ◌*◌, ◌/◌, ◌%◌, ◌^◌, ◌≤◌, ◌<◌}
use native.Mathlib.Nat.{le_trans, lt_of_lt_of_le, lt_irrefl, lt_of_not-le, mul-le-mul_left, mul-le-mul_right}
use native.Mathlib.Decide.{dec_le}
use native.Mathlib.Omega.{arith}
use lib.Pow.{pow_mono}

pub square_mono : {a b : ℕ} → a ≤ b → a * a ≤ b * b
square_mono {a} {b} h = le_trans (mul-le-mul_left a h) (mul-le-mul_right b h)

pub square_lt : {a b : ℕ} → a < b → a * a < b * b
square_lt {a} {b} h = omega (arith, square_mono h)

pub lt_of_square_lt : (a b : ℕ) → a * a < b * b → a < b
lt_of_square_lt a b h = lt_of_not-le (λ (g : b ≤ a). lt_irrefl (a * a) (lt_of_lt_of_le h (square_mono g)))

pub lt_of_pow_lt : (i j : ℕ) → 2 ^ i < 2 ^ j → i < j
lt_of_pow_lt i j h = lt_of_not-le (λ (g : j ≤ i). lt_irrefl (2 ^ i) (lt_of_lt_of_le h (pow_mono g)))

pub even_or_odd : (n : ℕ) → (n % 2 ≡ 0) ⊎ (n % 2 ≡ 1)
even_or_odd n = go (dec_le (n % 2) 0)
  where
    go : Dec (n % 2 ≤ 0) → (n % 2 ≡ 0) ⊎ (n % 2 ≡ 1)
    go (yes k) = inl (omega arith)
    go (no k) = inr (omega arith)

pub odd_square : (n : ℕ) → n % 2 ≡ 1 → n * n % 2 ≡ 1
odd_square n o = go (n / 2) (omega arith)
  where
    go : (c : ℕ) → n ≡ 2 * c + 1 → n * n % 2 ≡ 1
    go c e =
        let f : n * n ≡ 2 * (c * n) + n = omega (arith, ap (λ (x : ℕ). x * n) e) in
        omega arith
