-- Zimmermann's step (Karatsuba Square Root, 1999): from the whole root s of m to that of the number whose digits in base h are m, c1 and c2. Assumes nothing.
-- d is what m leaves above s * s. Of d * h + c1 divided by 2 * s the quotient is c and the remainder e. Then the root is a = s * h + c, or a - 1.
use mathlib.Core.Path.{◌≡◌, sym, ap}
use Prim.Native.Nat.{ℕ, suc, ◌+◌, ◌-◌, ◌*◌, ◌/◌, ◌%◌, ◌^◌, ◌≤◌, ◌<◌}
use native.Mathlib.Nat.{le_trans, lt_of_lt_of_le, le_of_suc-le-suc, le-add_right, mul-pos, mul-le-mul_left, mul-le-mul_right, mod-lt, div-add-mod'}
use native.Mathlib.Nat.{div-lt_iff_lt-mul}
use native.Mathlib.Omega.{arith}
use Rattle.square_root.specs.RootStep.{WholeRoot, Step}
use Rattle.square_root.proofs.Squares.{square_mono, lt_of_square_lt}

-- ---- on plain numbers

divided_lt : (d s h c1 : ℕ) → d ≤ 2 * s → c1 < h → h ≤ 2 * s → d * h + c1 < suc h * (2 * s)
divided_lt d s h c1 l u b = omega (arith, mul-le-mul_right h l)

remainder_lt : (s h c2 e : ℕ) → e < 2 * s → c2 < h → e * h + c2 < 2 * (s * h)
remainder_lt s h c2 e l u = omega (arith, mul-le-mul_right h l)

identity : (m s d h c1 c2 c e : ℕ) → m ≡ s * s + d → d * h + c1 ≡ c * (2 * s) + e → m * (h * h) + c1 * h + c2 + c * c ≡ (s * h + c) * (s * h + c) + (e * h + c2)
identity m s d h c1 c2 c e i j = omega (arith, ap (λ (x : ℕ). x * (h * h)) i, ap (λ (x : ℕ). x * h) j)

kept : (n a rest cc : ℕ) → n + cc ≡ a * a + rest → cc ≤ rest → rest ≤ 2 * a → WholeRoot n a
kept n a rest cc i l u = omega arith

less : (n a rest cc : ℕ) → n + cc ≡ a * a + rest → rest < cc → 1 ≤ a → cc + 1 ≤ 2 * a → WholeRoot n (a - 1)
less n a rest cc i l p u = go (a - 1) (omega arith)
  where
    go : (b : ℕ) → a ≡ b + 1 → WholeRoot n b
    go b e = let f : a * a ≡ (b + 1) * (b + 1) = ap (λ (x : ℕ). x * x) e in omega arith

-- ---- the numbers of `longer`

module _ {m s h c1 c2 : ℕ} (p : Step m s h c1 c2) where
  abbrev d : ℕ
  d = m - s * s

  abbrev c : ℕ
  c = (d * h + c1) / (2 * s)

  abbrev e : ℕ
  e = (d * h + c1) % (2 * s)

  d_le : d ≤ 2 * s
  d_le = omega arith

  divisor_pos : 0 < 2 * s
  divisor_pos = omega arith

  pub c_le : c ≤ h
  c_le = le_of_suc-le-suc ((div-lt_iff_lt-mul divisor_pos).1 (divided_lt d s h c1 d_le p.digit1 p.base))

  -- ---- what keeps each product and sum within 64 bits
  pub sh_le : s * h ≤ 2 ^ 54
  sh_le =
      let l : s ≤ 2 ^ 27 = omega arith in
      le_trans (mul-le-mul_right h l) (mul-le-mul_left (2 ^ 27) p.base_small)

  pub divided_small : d * h + c1 < 2 ^ 56
  divided_small = go d d_le
    where
      go : (x : ℕ) → x ≤ 2 * s → x * h + c1 < 2 ^ 56
      go x l = omega (arith, mul-le-mul_right h l, sh_le)

  cc_le : c * c ≤ h * h
  cc_le = square_mono c_le

  pub cc_small : c * c ≤ 2 ^ 54
  cc_small = le_trans cc_le (square_mono p.base_small)

  rest_lt : e * h + c2 < 2 * (s * h)
  rest_lt = remainder_lt s h c2 e (mod-lt (d * h + c1) divisor_pos) p.digit2

  pub rest_small : e * h + c2 < 2 ^ 55
  rest_small = lt_of_lt_of_le rest_lt (mul-le-mul_left 2 sh_le)

  -- ---- the root
  pub root_pos : 1 ≤ s * h + c
  root_pos =
      let l : 0 < s = omega arith in
      let u : 0 < h = omega arith in
      le_trans (mul-pos l u) (le-add_right (s * h) c)

  sum : m * (h * h) + c1 * h + c2 + c * c ≡ (s * h + c) * (s * h + c) + (e * h + c2)
  sum = identity m s d h c1 c2 c e (omega arith) (sym (div-add-mod' (d * h + c1) (2 * s)))

  pub root_kept : c * c ≤ e * h + c2 → WholeRoot (m * (h * h) + c1 * h + c2) (s * h + c)
  root_kept l = kept (m * (h * h) + c1 * h + c2) (s * h + c) (e * h + c2) (c * c) sum l (go c (e * h + c2) rest_lt)
    where
      go : (x y : ℕ) → y < 2 * (s * h) → y ≤ 2 * (s * h + x)
      go x y f = omega arith

  c_pos : e * h + c2 < c * c → 0 < c
  c_pos l = lt_of_square_lt 0 c (go (c * c) (e * h + c2) l)
    where
      go : (x y : ℕ) → y < x → 0 < x
      go x y f = omega arith

  pub root_less : e * h + c2 < c * c → WholeRoot (m * (h * h) + c1 * h + c2) (s * h + c - 1)
  root_less l = less (m * (h * h) + c1 * h + c2) (s * h + c) (e * h + c2) (c * c) sum l root_pos (go c (c * c) (c_pos l) cc_le)
    where
      go : (x y : ℕ) → 0 < x → y ≤ h * h → y + 1 ≤ 2 * (s * h + x)
      go x y f g = omega (arith, mul-le-mul_right h p.base)
