-- The number m * 2 ^ e units, with m's leading one moved to its place as `root_bits` moves it: its root, and the pattern of that root. Assumes nothing.
use mathlib.Core.Path.{◌≡◌, sym, ap, ◌∙◌, subst}
use mathlib.Core.Logic.{◌⊎◌, inl, inr}
use mathlib.Core.Bool.{false}
use Prim.Native.Nat.{ℕ, suc, ◌+◌, ◌-◌, ◌*◌, ◌/◌, ◌%◌, ◌^◌, ◌≤◌, ◌<◌}
use native.Mathlib.Nat.{le_of_eq, lt_of_lt_of_le, lt_of_le_of_lt, mul-pos, mul_assoc, mul-le-mul_left, mul-le-mul_right, mod-eq_of_lt}
use native.Mathlib.Omega.{arith}
use lib.Dec.{lit<, lit≤}
use lib.Count.{count_leading_zeros, leading_top}
use lib.Pow.{pow-add, pow_pos, shl_lt}
use lib.Ieee.{binary64, odd, units, of_bits}
use lib.Ieee.Exact.{odd_sign}
use Rattle.square_root.specs.Sqrt.{root_units, sqrt_of}
use Rattle.square_root.specs.RootStep.{WholeRoot, significand_of}
use Rattle.square_root.proofs.Squares.{even_or_odd, lt_of_pow_lt}
use Rattle.square_root.proofs.WholeRoots.{root_ge, root_lt}
use Rattle.square_root.proofs.Halfway.{half, radicand, rounded}
use Rattle.square_root.proofs.Units.{one_float, root_by_units}
use Rattle.square_root.proofs.Patterns.{joined, joined_lt}

-- m has at most 53 digits, and is not 0; the last place of any `f64` is at most e = 2097
pub record Parts (m e : ℕ) : Type 0 where
  pub some : 0 < m
  pub few : m < 2 ^ 53
  pub near : e ≤ 2097

pub parts_of : {b m e : ℕ} → (1 ≤ b) × (b < 0x7ff0_0000_0000_0000) → m ≡ significand_of b → e ≡ b / 2 ^ 52 - 1 → Parts m e
parts_of p i j = omega arith

-- ---- in the words of `root_bits`: z, f, s, and g of the root √(s * 2 ^ 54) * 2 ^ g

abbrev pub shift : ℕ → ℕ
shift m = count_leading_zeros 64 m - 11

abbrev pub left : ℕ → ℕ → ℕ
left m e = e + 1074 - shift m

abbrev pub placed : ℕ → ℕ → ℕ
placed m e = m * 2 ^ shift m * (1 + left m e % 2)

abbrev pub scale : ℕ → ℕ → ℕ
scale m e = left m e / 2 - 27

pow_parity : (f : ℕ) → 1 + f % 2 ≡ 2 ^ (f % 2)
pow_parity f = go (even_or_odd f)
  where
    go : (f % 2 ≡ 0) ⊎ (f % 2 ≡ 1) → 1 + f % 2 ≡ 2 ^ (f % 2)
    go (inl e) = rw e
    go (inr e) = rw e

pow_half : (f : ℕ) → 54 ≤ f → 2 ^ f ≡ (1 + f % 2) * (2 ^ 54 * (2 ^ (f / 2 - 27) * 2 ^ (f / 2 - 27)))
pow_half f l = go (f / 2 - 27) (omega arith)
  where
    go : (g : ℕ) → f ≡ f % 2 + (54 + (g + g)) → 2 ^ f ≡ (1 + f % 2) * (2 ^ 54 * (2 ^ g * 2 ^ g))
    go g e =
        ap (λ (x : ℕ). 2 ^ x) e
        ∙ pow-add 2 (f % 2) (54 + (g + g))
        ∙ ap (λ (x : ℕ). x * 2 ^ (54 + (g + g))) (sym (pow_parity f))
        ∙ ap (λ (x : ℕ). (1 + f % 2) * x) (pow-add 2 54 (g + g) ∙ ap (λ (x : ℕ). 2 ^ 54 * x) (pow-add 2 g g))

module _ {m e : ℕ} (p : Parts m e) where
  -- j is the place of m's leading one
  top : (j : ℕ) × (count_leading_zeros 64 m + suc j ≡ 64) × (2 ^ j ≤ m) × (m < 2 ^ suc j)
  top = leading_top 64 m p.some (lt_of_lt_of_le p.few (lit≤ tt))

  top_lt : top.0 < 53
  top_lt = lt_of_pow_lt top.0 53 (lt_of_le_of_lt top.2 p.few)

  pub zeros_ge : 11 ≤ count_leading_zeros 64 m
  zeros_ge = omega (arith, top.1, top_lt)

  shift_is : top.0 + shift m ≡ 52
  shift_is = omega (arith, top.1, top_lt)

  -- a significand that has its leading one stays where it is
  pub full : 2 ^ 52 ≤ m → shift m ≡ 0
  full l = let g : 52 < suc top.0 = lt_of_pow_lt 52 (suc top.0) (lt_of_le_of_lt l top.3) in omega (arith, shift_is, g)

  pub shift_le : shift m ≤ 52
  shift_le = omega (arith, shift_is)

  shifted_ge : 2 ^ 52 ≤ m * 2 ^ shift m
  shifted_ge =
      subst (λ (x : ℕ). x ≤ m * 2 ^ shift m) (sym (pow-add 2 top.0 (shift m)) ∙ ap (λ (x : ℕ). 2 ^ x) shift_is) (mul-le-mul_right (2 ^ shift m) top.2)

  shifted_lt : m * 2 ^ shift m < 2 ^ 53
  shifted_lt =
      let e : suc top.0 + shift m ≡ 53 = omega (arith, shift_is) in
      subst (λ (x : ℕ). m * 2 ^ shift m < 2 ^ x) e (shl_lt (suc top.0) (shift m) top.3)

  -- the machine's shift loses no digit
  shifted_whole : m * 2 ^ shift m % 2 ^ 64 ≡ m * 2 ^ shift m
  shifted_whole = mod-eq_of_lt (lt_of_lt_of_le shifted_lt (lit≤ tt))

  left_ge : 54 ≤ left m e
  left_ge = omega (arith, shift_le)

  pub placed_ge : 2 ^ 52 ≤ placed m e
  placed_ge = go (m * 2 ^ shift m) (left m e) shifted_ge
    where
      go : (v f : ℕ) → 2 ^ 52 ≤ v → 2 ^ 52 ≤ v * (1 + f % 2)
      go v f l = omega arith

  pub placed_le : placed m e ≤ 2 ^ 54 - 2
  placed_le = go (m * 2 ^ shift m) (left m e) shifted_lt
    where
      go : (v f : ℕ) → v < 2 ^ 53 → v * (1 + f % 2) ≤ 2 ^ 54 - 2
      go v f l = let h : 1 + f % 2 ≤ 2 = omega arith in omega (arith, mul-le-mul_left v h)

  -- so s, in the machine's words, is `placed`, and has 53 or 54 digits
  pub placed_is : m * 2 ^ shift m % 2 ^ 64 * (1 + left m e % 2) ≡ placed m e
  placed_is = ap (λ (x : ℕ). x * (1 + left m e % 2)) shifted_whole

  pub scaled : m * 2 ^ e * 2 ^ 1074 ≡ radicand (placed m e) (scale m e)
  scaled =
      let z = shift m in
      let f = left m e in
      let places : e + 1074 ≡ z + f = omega (arith, shift_le) in
      mul_assoc m (2 ^ e) (2 ^ 1074)
      ∙ ap (λ (x : ℕ). m * x) (sym (pow-add 2 e 1074) ∙ ap (λ (x : ℕ). 2 ^ x) places ∙ pow-add 2 z f)
      ∙ sym (mul_assoc m (2 ^ z) (2 ^ f))
      ∙ ap (λ (x : ℕ). m * 2 ^ z * x) (pow_half f left_ge)
      ∙ sym (mul_assoc (m * 2 ^ z) (1 + f % 2) (2 ^ 54 * (2 ^ scale m e * 2 ^ scale m e)))
      ∙ sym (mul_assoc (m * 2 ^ z * (1 + f % 2)) (2 ^ 54) (2 ^ scale m e * 2 ^ scale m e))

  pub near_root : scale m e + 1 < 2045
  near_root = let l = p.near in omega arith

  -- the exponent of the root's pattern
  field_is : left m e / 2 - 26 ≡ scale m e + 1
  field_is = omega (arith, left_ge)

  pub field_ge : 27 ≤ left m e / 2
  field_ge = omega (arith, left_ge)

  field_lt : left m e / 2 - 26 < 2045
  field_lt = lt_of_le_of_lt (le_of_eq field_is) near_root

  -- ---- the root of 54 digits, and of 53
  module _ {r : ℕ} (h : WholeRoot (placed m e * 2 ^ 54) r) where
    pub root54_ge : 2 ^ 53 ≤ r
    root54_ge = root_ge (2 ^ 53) h (mul-le-mul_right {m = 2 ^ 52} {n = placed m e} (2 ^ 54) placed_ge)

    pub root54_lt : r < 2 ^ 54 - 1
    root54_lt =
        root_lt (2 ^ 54 - 1) h
        (lt_of_le_of_lt
        (mul-le-mul_right {m = placed m e} {n = 2 ^ 54 - 2} (2 ^ 54) placed_le)
        (lit< {m = (2 ^ 54 - 2) * 2 ^ 54} {n = (2 ^ 54 - 1) * (2 ^ 54 - 1)} tt))

    root53_ge : 2 ^ 52 ≤ half r
    root53_ge = omega (arith, root54_ge)

    pub root53_lt : half r < 2 ^ 53
    root53_lt = omega (arith, root54_lt)

    pub root_is : root_units (m * 2 ^ e * 2 ^ 1074) ≡ units binary64 false (half r) (scale m e + 1)
    root_is =
        let small : r < 2 ^ 54 = omega (arith, root54_lt) in
        ap root_units scaled ∙ rounded (placed m e) (scale m e) h root54_ge small

    -- ---- its pattern
    pub pattern_lt : (left m e / 2 - 26) * 2 ^ 52 + half r < 0x7ff0_0000_0000_0000
    pattern_lt = joined_lt (left m e / 2 - 26) (half r) root53_ge root53_lt field_lt

    pub pattern_is : of_bits binary64 ((left m e / 2 - 26) * 2 ^ 52 + half r) ≡ sqrt_of (odd 53 false m e 1074)
    pattern_is =
        joined (left m e / 2 - 26) (half r) root53_ge root53_lt field_lt
        ∙ one_float (half r) (left m e / 2 - 26) root53_lt field_lt
        ∙ ap (λ (k : ℕ). units binary64 false (half r) k) field_is
        ∙ sym root_is
        ∙ sym (root_by_units (odd 53 false m e 1074) (m * 2 ^ e) (mul-pos p.some (pow_pos e)) (odd_sign 53 false m e 1074))
