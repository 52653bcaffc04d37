-- The gaps between floats, in units of 2 ^ -1074, and that √n lies on the side of its rounded value of every point halfway to another float. Assumes nothing.
use mathlib.Core.Path.{◌≡◌, sym, ap, ◌∙◌}
use mathlib.Core.Logic.{◌⊎◌, inl, inr}
use Prim.Native.Nat.{ℕ, suc, ◌+◌, ◌-◌, ◌*◌, ◌^◌, ◌≤◌, ◌<◌}
use native.Mathlib.Nat.{le_trans, le_of_eq, le_of_lt, lt_of_lt_of_le, lt_of_le_of_lt, lt_irrefl, eq-or-lt_of_le, mul-le-mul_right, mul-lt-mul_of_pos_right}
use native.Mathlib.Nat.{lt_of_mul-lt-mul_right}
use native.Mathlib.Decide.{dec_le}
use native.Mathlib.Omega.{arith}
use lib.Pow.{pow-add, pow_pos, pow_mono}
use lib.Ieee.{binary64}
use Rattle.ieee754.proofs.Spacing.{Grid, lowered}
use Rattle.square_root.specs.RootStep.{WholeRoot}
use Rattle.square_root.proofs.Squares.{square_mono, square_lt}
use Rattle.square_root.proofs.Halfway.{half, radicand, below_next, above_last, scaled_le}

-- ---- the gaps: beside q * 2 ^ k with q of 53 digits no float is nearer than 2 ^ k, but below 2 ^ 52 * 2 ^ k

abbrev Multiple : ℕ → ℕ → Type 0
Multiple t k = ((c : ℕ) × (t ≡ c * 2 ^ k)) ⊎ (t < 2 ^ 52 * 2 ^ k)

multiple : (t k : ℕ) → Grid binary64 t → Multiple t k
multiple t k G = go G.digits G.place G.few G.is (dec_le k G.place)
  where
    go : (d j : ℕ) → d < 2 ^ 53 → t ≡ d * 2 ^ j → Dec (k ≤ j) → Multiple t k
    go d j l e (yes h) = inl (d * 2 ^ (j - k), e ∙ lowered d j k h)
    go d j l e (no h) =
        let more : 53 + j ≤ 52 + k = omega arith in
        let less : d * 2 ^ j < 2 ^ 53 * 2 ^ j = mul-lt-mul_of_pos_right l (pow_pos j) in
        let far : 2 ^ 53 * 2 ^ j ≤ 2 ^ 52 * 2 ^ k = le_trans (le_of_eq (sym (pow-add 2 53 j))) (le_trans (pow_mono more) (le_of_eq (pow-add 2 52 k))) in
        inr (lt_of_le_of_lt (le_of_eq e) (lt_of_lt_of_le less far))

next_up : (q k t : ℕ) → Grid binary64 t → 2 ^ 52 ≤ q → q * 2 ^ k < t → suc q * 2 ^ k ≤ t
next_up q k t G lo h = go (multiple t k G)
  where
    go : Multiple t k → suc q * 2 ^ k ≤ t
    go (inl (c, f)) = le_trans (mul-le-mul_right (2 ^ k) (lt_of_mul-lt-mul_right (2 ^ k) (lt_of_lt_of_le h (le_of_eq f)))) (le_of_eq (sym f))
    go (inr f) = absurd (lt_irrefl (q * 2 ^ k) (lt_of_lt_of_le h (le_trans (le_of_lt f) (mul-le-mul_right (2 ^ k) lo))))

next_down : (q k t : ℕ) → Grid binary64 t → 2 ^ 52 < q → t < q * 2 ^ k → t ≤ (q - 1) * 2 ^ k
next_down q k t G lo h = go (multiple t k G)
  where
    before : (a : ℕ) → a < q → a ≤ q - 1
    before a l = omega arith

    go : Multiple t k → t ≤ (q - 1) * 2 ^ k
    go (inl (c, f)) = le_trans (le_of_eq f) (mul-le-mul_right (2 ^ k) (before c (lt_of_mul-lt-mul_right (2 ^ k) (lt_of_le_of_lt (le_of_eq (sym f)) h))))
    go (inr f) = le_trans (le_of_lt f) (mul-le-mul_right (2 ^ k) (before (2 ^ 52) lo))

-- ---- so √a lies on the side of w of every point halfway

abbrev pub Sides : ℕ → ℕ → Type 0
Sides a w = (t : ℕ) → Grid binary64 t → (w < t → 4 * a < (w + t) * (w + t)) × (t < w → (w + t) * (w + t) < 4 * a)

sum_up : (q x t : ℕ) → suc q * x ≤ t → (2 * q + 1) * x ≤ q * x + t
sum_up q x t l = omega arith

sum_down : (q b x t : ℕ) → q ≡ b + 1 → t ≤ b * x → q * x + t ≤ (2 * b + 1) * x
sum_down q b x t e l = omega (arith, ap (λ (y : ℕ). y * x) e)

sum_least : (q x t : ℕ) → t < q * x → q * x + t < 2 * q * x
sum_least q x t l = omega arith

module _ (s : ℕ) {r : ℕ} (g : ℕ) (h : WholeRoot (s * 2 ^ 54) r) (big : 2 ^ 53 ≤ r) where
  abbrev w : ℕ
  w = half r * 2 ^ (g + 1)

  half_ge : 2 ^ 52 ≤ half r
  half_ge = omega arith

  side_up : (t : ℕ) → Grid binary64 t → w < t → 4 * radicand s g < (w + t) * (w + t)
  side_up t G l = lt_of_lt_of_le (below_next s g h big) (square_mono (sum_up (half r) (2 ^ (g + 1)) t (next_up (half r) (g + 1) t G half_ge l)))

  -- where half r is the least number of 53 digits, √n is no less than w, and the gap below it does not matter
  at_least : 2 ^ 52 ≡ half r → 2 * half r * 2 ^ (g + 1) * (2 * half r * 2 ^ (g + 1)) ≤ 4 * radicand s g
  at_least e =
      let l : 2 * half r ≤ r = omega arith in
      scaled_le (s * 2 ^ 54) (2 * half r) g (le_trans (square_mono l) h.square_le)

  side_down : (t : ℕ) → Grid binary64 t → t < w → (w + t) * (w + t) < 4 * radicand s g
  side_down t G l = go (eq-or-lt_of_le half_ge)
    where
      go : (2 ^ 52 ≡ half r) ⊎ (2 ^ 52 < half r) → (w + t) * (w + t) < 4 * radicand s g
      go (inl e) = lt_of_lt_of_le (square_lt (sum_least (half r) (2 ^ (g + 1)) t l)) (at_least e)
      go (inr k) =
          let e : half r ≡ half r - 1 + 1 = omega arith in
          lt_of_le_of_lt (square_mono (sum_down (half r) (half r - 1) (2 ^ (g + 1)) t e (next_down (half r) (g + 1) t G k l))) (above_last s g h big)

  pub sides : Sides (radicand s g) w
  sides t G = (side_up t G, side_down t G)
