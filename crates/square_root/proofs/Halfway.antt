-- The rounded root of s * 2 ^ 54 * 4 ^ g units, from the whole root r of s * 2 ^ 54, which has 54 digits: it is (r + 1) / 2 times 2 ^ (g + 1) units. Assumes
-- nothing.
-- √n lies strictly between the points halfway to the two neighbours. It is on neither: such a point is an odd number times 2 ^ g, whose square is odd times 4 ^
-- g.
use mathlib.Core.Path.{◌≡◌, refl, sym, ap, ◌∙◌, subst}
use mathlib.Core.Logic.{◌⊎◌, inl, inr}
use mathlib.Core.Bool.{false, not}
use Prim.Native.Nat.{ℕ, suc, ◌+◌, ◌-◌, ◌*◌, ◌/◌, ◌%◌, ◌^◌, ◌≤◌, ◌<◌, compare, Ordering}
use native.Mathlib.Nat.{le_trans, le_of_lt, lt_of_lt_of_le, lt_of_le_of_lt, lt_irrefl, le_antisymm, le_of_suc-le-suc, mul-le-mul_right, mul-lt-mul_of_pos_right}
use native.Mathlib.Nat.{mul-pos, pow-succ', div-lt_iff_lt-mul, le-div_iff_mul-le}
use native.Mathlib.Omega.{arith}
use native.Mathlib.Numerals.{add-one}
use lib.Dec.{T, is_le, compare_is_eq, le→leb, eqb→eq}
use lib.Arith.{lt→nleb}
use lib.Pow.{pow-add, pow_pos, shr-shr}
use lib.Ieee.{binary64, size, nearest, units}
use lib.Ieee.Digits.{size-lt, size-le}
use Rattle.square_root.specs.Sqrt.{isqrt, root_units}
use Rattle.square_root.specs.RootStep.{WholeRoot}
use Rattle.square_root.proofs.Squares.{square_mono, square_lt, odd_square, even_or_odd, lt_of_pow_lt}
use Rattle.square_root.proofs.WholeRoots.{root_ge, root_lt, isqrt_floor}

-- ---- `compare`, from an order

compare_lt : (a b : ℕ) → a < b → compare a b ≡ Ordering.lt
compare_lt a b h = go (compare a b) (le→leb a b (le_of_lt h)) (λ t. lt_irrefl b (subst (λ (x : ℕ). x < b) (eqb→eq a b t) h))
  where
    go : (o : Ordering) → T (is_le o) → (T (compare_is_eq o) → ⊥) → o ≡ Ordering.lt
    go Ordering.lt l n = refl
    go Ordering.eq l n = absurd (n tt)
    go Ordering.gt l n = absurd l

compare_gt : (a b : ℕ) → b < a → compare a b ≡ Ordering.gt
compare_gt a b h = go (compare a b) (lt→nleb a b h)
  where
    go : (o : Ordering) → T (not (is_le o)) → o ≡ Ordering.gt
    go Ordering.lt l = absurd l
    go Ordering.eq l = absurd l
    go Ordering.gt l = refl

-- ---- the square of c * 2 ^ (g + 1) is 4 * c * c * 4 ^ g

square_scaled : (c g : ℕ) → c * 2 ^ (g + 1) * (c * 2 ^ (g + 1)) ≡ 4 * (c * c * (2 ^ g * 2 ^ g))
square_scaled c g = rw (add-one, pow-succ') (omega arith)

scale_pos : (g : ℕ) → 0 < 2 ^ g * 2 ^ g
scale_pos g = mul-pos (pow_pos g) (pow_pos g)

scaled_below : (a c g : ℕ) → a < c * c → 4 * (a * (2 ^ g * 2 ^ g)) < c * 2 ^ (g + 1) * (c * 2 ^ (g + 1))
scaled_below a c g l = omega (arith, square_scaled c g, mul-lt-mul_of_pos_right l (scale_pos g))

scaled_above : (a c g : ℕ) → c * c < a → c * 2 ^ (g + 1) * (c * 2 ^ (g + 1)) < 4 * (a * (2 ^ g * 2 ^ g))
scaled_above a c g l = omega (arith, square_scaled c g, mul-lt-mul_of_pos_right l (scale_pos g))

pub scaled_le : (a c g : ℕ) → c * c ≤ a → c * 2 ^ (g + 1) * (c * 2 ^ (g + 1)) ≤ 4 * (a * (2 ^ g * 2 ^ g))
scaled_le a c g l = omega (arith, square_scaled c g, mul-le-mul_right (2 ^ g * 2 ^ g) l)

-- ---- the root's 53 digits, half r, and the points halfway to its neighbours

abbrev pub radicand : ℕ → ℕ → ℕ
radicand s g = s * 2 ^ 54 * (2 ^ g * 2 ^ g)

abbrev pub half : ℕ → ℕ
half r = (r + 1) / 2

-- twice the point halfway between q * 2 ^ k and (q + 1) * 2 ^ k
abbrev pub halfway : ℕ → ℕ → ℕ
halfway q k = (2 * q + 1) * 2 ^ k

module _ (s : ℕ) {r : ℕ} (g : ℕ) (h : WholeRoot (s * 2 ^ 54) r) (big : 2 ^ 53 ≤ r) where
  pub below_next : 4 * radicand s g < halfway (half r) (g + 1) * halfway (half r) (g + 1)
  below_next =
      let l : r + 1 ≤ 2 * half r + 1 = omega arith in
      scaled_below (s * 2 ^ 54) (2 * half r + 1) g (lt_of_lt_of_le h.next_above (square_mono l))

  pub above_last : halfway (half r - 1) (g + 1) * halfway (half r - 1) (g + 1) < 4 * radicand s g
  above_last = scaled_above (s * 2 ^ 54) (2 * (half r - 1) + 1) g (go (even_or_odd r))
    where
      go : (r % 2 ≡ 0) ⊎ (r % 2 ≡ 1) → (2 * (half r - 1) + 1) * (2 * (half r - 1) + 1) < s * 2 ^ 54
      go (inl e) = let l : 2 * (half r - 1) + 1 < r = omega arith in lt_of_lt_of_le (square_lt l) h.square_le
      go (inr o) =
          let e : 2 * (half r - 1) + 1 ≡ r = omega arith in
          let f : r * r < s * 2 ^ 54 = omega (arith, odd_square r o) in
          rw e f

  module _ (small : r < 2 ^ 54) where
    abbrev root : ℕ
    root = isqrt (radicand s g)

    low : r * 2 ^ g ≤ root
    low = root_ge (r * 2 ^ g) (isqrt_floor (radicand s g)) (omega (arith, mul-le-mul_right (2 ^ g * 2 ^ g) h.square_le))

    high : root < suc r * 2 ^ g
    high = root_lt (suc r * 2 ^ g) (isqrt_floor (radicand s g)) (omega (arith, mul-lt-mul_of_pos_right h.next_above (scale_pos g)))

    kept : root / 2 ^ g ≡ r
    kept = le_antisymm (le_of_suc-le-suc ((div-lt_iff_lt-mul (pow_pos g)).1 high)) ((le-div_iff_mul-le (pow_pos g)).1 low)

    drops : size root - 53 ≡ g + 1
    drops =
        let up : root < 2 ^ (54 + g) = rw (pow-add 2 54 g) (lt_of_lt_of_le high (mul-le-mul_right (2 ^ g) small)) in
        let down : 2 ^ (53 + g) ≤ root = rw (pow-add 2 53 g) (le_trans (mul-le-mul_right (2 ^ g) big) low) in
        let le : size root ≤ 54 + g = size-le root (54 + g) up in
        let gt : 53 + g < size root = lt_of_pow_lt (53 + g) (size root) (lt_of_le_of_lt down (size-lt root)) in
        omega arith

    halved : root / 2 ^ (g + 1) ≡ r / 2
    halved = sym (shr-shr root g 1) ∙ ap (λ (x : ℕ). x / 2) kept

    to_nearest : (r % 2 ≡ 0) ⊎ (r % 2 ≡ 1) → nearest (r / 2) (compare (4 * radicand s g) (halfway (r / 2) (g + 1) * halfway (r / 2) (g + 1))) ≡ half r
    to_nearest (inl e) =
        let f : half r ≡ r / 2 = omega arith in
        let l = subst (λ (x : ℕ). 4 * radicand s g < halfway x (g + 1) * halfway x (g + 1)) f below_next in
        ap (nearest (r / 2)) (compare_lt (4 * radicand s g) (halfway (r / 2) (g + 1) * halfway (r / 2) (g + 1)) l) ∙ sym f
    to_nearest (inr o) =
        let f : half r - 1 ≡ r / 2 = omega arith in
        let l = subst (λ (x : ℕ). halfway x (g + 1) * halfway x (g + 1) < 4 * radicand s g) f above_last in
        let up : suc (r / 2) ≡ half r = omega arith in
        ap (nearest (r / 2)) (compare_gt (4 * radicand s g) (halfway (r / 2) (g + 1) * halfway (r / 2) (g + 1)) l) ∙ up

    pub rounded : root_units (radicand s g) ≡ units binary64 false (half r) (g + 1)
    unfolding root_units
    rounded =
        ap (λ (k : ℕ). units binary64 false (nearest (root / 2 ^ k) (compare (4 * radicand s g) (halfway (root / 2 ^ k) k * halfway (root / 2 ^ k) k))) k) drops
        ∙ ap (λ (q : ℕ). units binary64 false (nearest q (compare (4 * radicand s g) (halfway q (g + 1) * halfway q (g + 1)))) (g + 1)) halved
        ∙ ap (λ (q : ℕ). units binary64 false q (g + 1)) (to_nearest (even_or_odd r))
