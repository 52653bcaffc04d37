-- How far the rounded root lies from the exact one: its square is within about the 2 ^ -52nd part of the number. Assumes nothing.
use mathlib.Core.Path.{◌≡◌, refl, sym, ◌∙◌, subst}
use mathlib.Core.Logic.{◌⊎◌, inl, inr}
use mathlib.Core.Bool.{Bool, true, false, cond}
use Prim.Native.Nat.{ℕ, suc, ◌+◌, ◌-◌, ◌*◌, ◌/◌, ◌%◌, ◌^◌, ◌≤◌, ◌<◌, compare, Ordering}
use native.Mathlib.Nat.{le_trans, le_of_eq, le_of_lt, lt_of_lt_of_le, lt_of_not-le, not-le_of_lt, one-mul, mul-le-mul_right, le-div_iff_mul-le}
use native.Mathlib.Nat.{div-lt_iff_lt-mul, div-mul-le_self}
use native.Mathlib.Omega.{arith}
use lib.Dec.{T, ltb, ltb→lt, lit≤}
use lib.Pow.{pow-add, pow_pos, pow_mono}
use lib.Ieee.{Float, nan, inf, fin, binary64, size, nearest, odd, units, fits}
use lib.Ieee.Digits.{size-lt, size_reaches}
use lib.Ieee.Exact.{HasValue, units_val}
use lib.Ieee.Nearest.{nearest-ge}
use lib.Ieee.Positive.{positive}
use lib.Ieee.Scale.{finite}
use Rattle.ieee754.specs.Closeness.{Near}
use Rattle.ieee754.proofs.Closeness.{root_near}
use Rattle.ieee754.proofs.Rounded.{Cmp, cmp}
use Rattle.ieee754.proofs.Units.{exact_units, units_of, positive_units, value-not_negative, not_negative_finite}
use Rattle.square_root.specs.Sqrt.{isqrt, root_units, sqrt_of}
use Rattle.square_root.specs.RootStep.{WholeRoot}
use Rattle.square_root.specs.NearestRoot.{in_units, NearestRoot, RootClose}
use Rattle.square_root.proofs.Squares.{square_mono, even_or_odd}
use Rattle.square_root.proofs.WholeRoots.{root_ge, isqrt_floor}
use Rattle.square_root.proofs.NearestLaw.{sqrt_nearest, nearest_root_unique}
use Rattle.square_root.proofs.Units.{root_by_units}

-- ---- r is the whole root of n, and q * w what is kept of it: the result c is q * w or (q + 1) * w

record Rooted (n w c : ℕ) : Type 0 where
  above : n ≤ c * c + c * w + w * w
  below : c * c ≤ n + c * w

module _ (n r q w : ℕ) (h : WholeRoot n r) (lo : q * w ≤ r) (hi : r < (q + 1) * w) where
  low_square : q * w * (q * w) ≤ n
  low_square = le_trans (square_mono lo) h.square_le

  high_square : n ≤ (q + 1) * w * ((q + 1) * w)
  high_square = let l : r + 1 ≤ (q + 1) * w = omega arith in le_trans (le_of_lt h.next_above) (square_mono l)

  stay : 4 * n ≤ (2 * q + 1) * w * ((2 * q + 1) * w) → Rooted n w (q * w)
  stay g = omega (arith, low_square)

  move : (2 * q + 1) * w * ((2 * q + 1) * w) ≤ 4 * n → Rooted n w ((q + 1) * w)
  move g = omega (arith, high_square)

  rooted : (o : Ordering) → Cmp o (4 * n) ((2 * q + 1) * w * ((2 * q + 1) * w)) → Rooted n w (nearest q o * w)
  rooted Ordering.lt g = stay (le_of_lt g)
  rooted Ordering.eq g = go (even_or_odd q)
    where
      go : (q % 2 ≡ 0) ⊎ (q % 2 ≡ 1) → Rooted n w ((q + q % 2) * w)
      go (inl e) = let s : q ≡ q + q % 2 = omega arith in subst (λ (z : ℕ). Rooted n w (z * w)) s (stay (le_of_eq g))
      go (inr e) = let s : q + 1 ≡ q + q % 2 = omega arith in subst (λ (z : ℕ). Rooted n w (z * w)) s (move (le_of_eq (sym g)))
  rooted Ordering.gt g = let s : q + 1 ≡ suc q = omega arith in subst (λ (z : ℕ). Rooted n w (z * w)) s (move (le_of_lt g))

-- ---- the parts of `root_units n`, and that 53 digits are kept

abbrev places : ℕ → ℕ
places n = size (isqrt n) - 53

abbrev digits : ℕ → ℕ
digits n = isqrt n / 2 ^ places n

abbrev halfway : ℕ → ℕ
halfway n = (2 * digits n + 1) * 2 ^ places n

abbrev result : ℕ → ℕ
result n = nearest (digits n) (compare (4 * n) (halfway n * halfway n))

opened : (n : ℕ) → root_units n ≡ units binary64 false (result n) (places n)
unfolding root_units
opened n = refl

all_digits : (z : ℕ) → 53 ≤ z → 52 + (z - 53) < z
all_digits z h = omega arith

size_ge : (r : ℕ) → 2 ^ 52 ≤ r → 53 ≤ size r
size_ge r h = lt_of_not-le (λ (g : size r ≤ 52). not-le_of_lt (lt_of_lt_of_le (size-lt r) (pow_mono g)) h)

next : (r w : ℕ) → 0 < w → r < (r / w + 1) * w
next r w p = (div-lt_iff_lt-mul p).0 (omega arith)

module _ (g : ℕ) (few : 4 * g ≤ 2 ^ 53) (n : ℕ) (big : 2 ^ 52 * 2 ^ 52 ≤ n) where
  digits_ge : 2 ^ 52 ≤ digits n
  digits_ge =
      let r = isqrt n in
      let l : 2 ^ 52 ≤ r = root_ge (2 ^ 52) (isqrt_floor n) big in
      (le-div_iff_mul-le (pow_pos (places n))).1
      (le_trans (le_of_eq (sym (pow-add 2 52 (places n)))) (size_reaches r (52 + places n) (all_digits (size r) (size_ge r l))))

  result_rooted : Rooted n (2 ^ places n) (result n * 2 ^ places n)
  result_rooted =
      let w = 2 ^ places n in
      rooted n (isqrt n) (digits n) w (isqrt_floor n) (div-mul-le_self (isqrt n) w) (next (isqrt n) w (pow_pos (places n)))
      (compare (4 * n) (halfway n * halfway n)) (cmp (4 * n) (halfway n * halfway n))

  result_wide : 2 ^ 53 * 2 ^ places n ≤ 2 * (result n * 2 ^ places n)
  result_wide = go (digits n) (result n) (2 ^ places n) digits_ge (nearest-ge (digits n) (compare (4 * n) (halfway n * halfway n)))
    where
      go : (q c w : ℕ) → 2 ^ 52 ≤ q → q ≤ c → 2 ^ 53 * w ≤ 2 * (c * w)
      go q c w l m = omega (arith, mul-le-mul_right w (le_trans l m))

  result_near : Near (g * 2 ^ 53) (2 * g + 1) n (result n * 2 ^ places n * (result n * 2 ^ places n))
  result_near = root_near g (result n * 2 ^ places n) (2 ^ places n) few result_wide result_rooted.above result_rooted.below

-- ---- as a float

units_under : (q k : ℕ) → T (finite (units binary64 false q k)) → q * 2 ^ k < 2 ^ 2098
unfolding units
units_under q k = go (ltb (q * 2 ^ k) (2 ^ 2098)) (ltb→lt (q * 2 ^ k) (2 ^ 2098))
  where
    go : (b : Bool) → (T b → q * 2 ^ k < 2 ^ 2098) → T (finite (cond b (odd 54 false q k 1074) (inf false))) → q * 2 ^ k < 2 ^ 2098
    go true h t = h tt
    go false h t = absurd t

positive_value : (x : Float) → T (fits binary64 x) → T (positive x) → HasValue x false (in_units x) (2 ^ 1074)
positive_value nan F p = absurd p
positive_value (inf s) F p = absurd p
positive_value (fin true m e) F p = absurd p
positive_value (fin false m e) F p = (refl, exact_units binary64 false m e F)

module _ (x : Float) (F : T (fits binary64 x)) (p : T (positive x)) where
  abbrev under_root : ℕ
  under_root = in_units x * 2 ^ 1074

  some : 0 < in_units x
  some = positive_units binary64 x F p

  root_nearest : NearestRoot x (sqrt_of x)
  root_nearest = sqrt_nearest x F (value-not_negative x (in_units x) (2 ^ 1074) (positive_value x F p))

  root_is : sqrt_of x ≡ units binary64 false (result under_root) (places under_root)
  root_is = root_by_units x (in_units x) some (positive_value x F p) ∙ opened under_root

  root_finite : T (finite (units binary64 false (result under_root) (places under_root)))
  root_finite = subst (λ (z : Float). T (finite z)) root_is (not_negative_finite (sqrt_of x) root_nearest.from_zero)

  root_units_lem : in_units (sqrt_of x) ≡ result under_root * 2 ^ places under_root
  root_units_lem =
      units_of binary64 (sqrt_of x) false (result under_root * 2 ^ places under_root)
      (subst (λ (z : Float). HasValue z false (result under_root * 2 ^ places under_root) (2 ^ 1074)) (sym root_is)
      (units_val binary64 false (result under_root) (places under_root) (units_under (result under_root) (places under_root) root_finite)))

  big_enough : 2 ^ 52 * 2 ^ 52 ≤ under_root
  big_enough =
      le_trans (lit≤ {m = 2 ^ 52 * 2 ^ 52} {n = 2 ^ 1074} tt) (le_trans (le_of_eq (sym (one-mul (2 ^ 1074)))) (mul-le-mul_right (2 ^ 1074) some))

  sqrt_close : (g : ℕ) → 4 * g ≤ 2 ^ 53 → Near (g * 2 ^ 53) (2 * g + 1) under_root (in_units (sqrt_of x) * in_units (sqrt_of x))
  sqrt_close g few = subst (λ (z : ℕ). Near (g * 2 ^ 53) (2 * g + 1) under_root (z * z)) (sym root_units_lem) (result_near g few under_root big_enough)

pub root_close : RootClose
root_close g few x r F p h =
    subst (λ (z : Float). Near (g * 2 ^ 53) (2 * g + 1) (in_units x * 2 ^ 1074) (in_units z * in_units z))
    (nearest_root_unique x (sqrt_of x) r (root_nearest x F p) h) (sqrt_close x F p g few)
