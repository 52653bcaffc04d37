-- An `f64` by its size in units of 2 ^ -1074: its pattern, a number of 53 digits as one float, and √ by it. Assumes nothing.
use mathlib.Core.Path.{◌≡◌, sym, ap, ◌∙◌, subst}
use mathlib.Core.Bool.{true, false}
use Prim.Native.Nat.{ℕ, zero, suc, ◌+◌, ◌-◌, ◌*◌, ◌/◌, ◌^◌, ◌≤◌, ◌<◌}
use native.Mathlib.Nat.{le_of_eq, le_of_lt, lt_of_lt_of_le, lt_of_le_of_lt, mul_assoc, mul_right_comm, mul-div_cancel}
use native.Mathlib.Omega.{arith}
use lib.Dec.{T, ltb, lit≤}
use lib.Pow.{pow_mono, shl_lt}
use lib.Ieee.{Float, nan, inf, fin, binary64, up, down, size, odd, units, fits, to_bits}
use lib.Ieee.Digits.{size-le}
use lib.Ieee.Fits.{down_pos, odd-fits, cond-fits, inf-fits, kept-lt}
use lib.Ieee.Exact.{HasValue, odd_sign, units_val}
use Rattle.ieee754.specs.Units.{not_negative}
use Rattle.ieee754.proofs.Units.{bits_of, units_of, units_lt, zero_units, value-not_negative, same_units}
use Rattle.square_root.specs.Sqrt.{root_units, sqrt_of}
use Rattle.square_root.specs.NearestRoot.{in_units}

-- ---- the pattern of a finite one

pub finite_bits_lt : (x : Float) → T (fits binary64 x) → T (not_negative x) → to_bits binary64 x < 0x7ff0_0000_0000_0000
finite_bits_lt x F p =
    lt_of_le_of_lt (le_of_eq (bits_of binary64 x p))
    (go (size (in_units x)) (in_units x / 2 ^ (size (in_units x) - 53)) (size-le (in_units x) 2098 (units_lt binary64 x F)) (kept-lt 53 (in_units x)))
  where
    go : (k q : ℕ) → k ≤ 2098 → q < 2 ^ 53 → 0 + (k - 53) * 2 ^ 52 + q < 0x7ff0_0000_0000_0000
    go k q l h = omega arith

-- ---- a number of 53 digits, k places up, is one float, whichever way it is written

module _ (q k : ℕ) (few : q < 2 ^ 53) (near : k < 2045) where
  in-range : q * 2 ^ k < 2 ^ 2098
  in-range = let l : 53 + k ≤ 2098 = omega arith in lt_of_lt_of_le (shl_lt 53 k few) (pow_mono l)

  pub placed_fits : T (fits binary64 (units binary64 false q k))
  unfolding units
  placed_fits =
      cond-fits binary64 (ltb (q * 2 ^ k) (2 ^ 2098)) (odd 54 false q k 1074) (inf false)
      (odd-fits binary64 54 false q k (lt_of_lt_of_le few (lit≤ tt)) (le_of_lt few) in-range)
      (inf-fits binary64 false)

  pub placed_value : HasValue (units binary64 false q k) false (q * 2 ^ k) (2 ^ 1074)
  placed_value = units_val binary64 false q k in-range

  pub one_float : odd 53 false q k 1074 ≡ units binary64 false q k
  one_float =
      same_units binary64 (odd 53 false q k 1074) (units binary64 false q k) (odd-fits binary64 53 false q k few (le_of_lt few) in-range) placed_fits
      (value-not_negative (odd 53 false q k 1074) (q * 2 ^ k) (2 ^ 1074) (odd_sign 53 false q k 1074))
      (value-not_negative (units binary64 false q k) (q * 2 ^ k) (2 ^ 1074) placed_value)
      (units_of binary64 (odd 53 false q k 1074) false (q * 2 ^ k) (odd_sign 53 false q k 1074)
      ∙ sym (units_of binary64 (units binary64 false q k) false (q * 2 ^ k) placed_value))

-- ---- √x, by x's size

squared_units : (m u d a : ℕ) → 0 < d → m * u * 2 ^ 1074 ≡ a * d → m * u * 2 ^ 2148 / d ≡ a * 2 ^ 1074
squared_units m u d a p h =
    ap (λ (x : ℕ). x / d) (sym (mul_assoc (m * u) (2 ^ 1074) (2 ^ 1074)) ∙ ap (λ (x : ℕ). x * 2 ^ 1074) h ∙ mul_right_comm a d (2 ^ 1074))
    ∙ mul-div_cancel (a * 2 ^ 1074) p

pub root_by_units : (x : Float) (a : ℕ) → 0 < a → HasValue x false a (2 ^ 1074) → sqrt_of x ≡ root_units (a * 2 ^ 1074)
unfolding sqrt_of
root_by_units nan a p h = absurd h
root_by_units (inf s) a p h = absurd h
root_by_units (fin true m e) a p h = absurd (subst T h.0 tt)
root_by_units (fin false zero e) a p h =
    let z : a ≡ 0 = sym (units_of binary64 (fin false 0 e) false a h) ∙ zero_units binary64 false e in
    absurd (omega arith)
root_by_units (fin false (suc m) e) a p h = ap root_units (squared_units (suc m) (up e) (down e) a (down_pos e) h.1)
