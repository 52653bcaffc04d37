-- The law: for every finite `f64` x from 0 up, `sqrt_of x` is the `f64` nearest to √x, and no other float is. Assumes nothing.
-- So `NearestRoot x r` and `r ≡ sqrt_of x` say the same of such an x.
use mathlib.Core.Path.{◌≡◌, refl, sym, ap, ◌∙◌, subst}
use mathlib.Core.Bool.{true, false}
use Prim.Native.Nat.{ℕ, zero, suc, ◌+◌, ◌*◌, ◌^◌, ◌≤◌, ◌<◌}
use native.Mathlib.Nat.{lt_of_le_of_lt, le_of_suc-le-suc, mul-pos, zero-lt-suc}
use native.Mathlib.Omega.{arith}
use lib.IntN.{ℤ}
use lib.Dec.{T}
use lib.Pow.{pow_pos}
use lib.Ieee.{Float, nan, inf, fin, binary64, units, fits}
use lib.Ieee.Exact.{HasValue}
use Rattle.ieee754.proofs.Units.{in_format, place_of, at_place, zero_units, units_of, units_lt, value-not_negative, same_units}
use Rattle.ieee754.proofs.Spacing.{on_grid}
use Rattle.square_root.specs.Sqrt.{isqrt, sqrt_of}
use Rattle.square_root.specs.NearestRoot.{in_units, NearestRoot}
use Rattle.square_root.specs.RootStep.{WholeRoot}
use Rattle.square_root.specs.RootLaws.{SqrtNearest, NearestRootUnique}
use Rattle.square_root.proofs.Squares.{lt_of_pow_lt}
use Rattle.square_root.proofs.WholeRoots.{isqrt_floor}
use Rattle.square_root.proofs.Halfway.{half, radicand}
use Rattle.square_root.proofs.Units.{root_by_units, placed_fits, placed_value}
use Rattle.square_root.proofs.Placed.{Parts, placed, scale, scaled, near_root, root54_ge, root53_lt, root_is}
use Rattle.square_root.proofs.Spacing.{Sides, sides}

-- ---- of x = m * 2 ^ e units

module _ (x : Float) {m e : ℕ} (p : Parts m e) (v : HasValue x false (m * 2 ^ e) (2 ^ 1074)) where
  abbrev root54 : ℕ
  root54 = isqrt (placed m e * 2 ^ 54)

  whole : WholeRoot (placed m e * 2 ^ 54) root54
  whole = isqrt_floor (placed m e * 2 ^ 54)

  abbrev root : Float
  root = units binary64 false (half root54) (scale m e + 1)

  root_value : HasValue root false (half root54 * 2 ^ (scale m e + 1)) (2 ^ 1074)
  root_value = placed_value (half root54) (scale m e + 1) (root53_lt p whole) (near_root p)

  rounded_is : sqrt_of x ≡ root
  rounded_is = root_by_units x (m * 2 ^ e) (mul-pos p.some (pow_pos e)) v ∙ root_is p whole

  own_side : Sides (in_units x * 2 ^ 1074) (in_units root)
  own_side =
      let a : in_units x * 2 ^ 1074 ≡ radicand (placed m e) (scale m e) = ap (λ (n : ℕ). n * 2 ^ 1074) (units_of binary64 x false (m * 2 ^ e) v) ∙ scaled p in
      let w : in_units root ≡ half root54 * 2 ^ (scale m e + 1) = units_of binary64 root false (half root54 * 2 ^ (scale m e + 1)) root_value in
      subst (λ (n : ℕ). Sides n (in_units root)) (sym a)
      (subst (λ (n : ℕ). Sides (radicand (placed m e) (scale m e)) n) (sym w) (sides (placed m e) (scale m e) whole (root54_ge p whole)))

  root_nearest : NearestRoot x root
  root_nearest = record {
    held = placed_fits (half root54) (scale m e + 1) (root53_lt p whole) (near_root p);
    from_zero = value-not_negative root (half root54 * 2 ^ (scale m e + 1)) (2 ^ 1074) root_value;
    larger = λ y F q. (own_side (in_units y) (on_grid binary64 y F)).0;
    smaller = λ y F q. (own_side (in_units y) (on_grid binary64 y F)).1;
  }

  parts_nearest : NearestRoot x (sqrt_of x)
  parts_nearest = subst (NearestRoot x) (sym rounded_is) root_nearest

-- ---- of zero: no float is smaller, and of every larger one the point halfway is above zero

zero_nearest : (e : ℤ) → T (fits binary64 (fin false 0 e)) → NearestRoot (fin false 0 e) (fin false 0 e)
zero_nearest e F = record {
  held = F;
  from_zero = tt;
  larger = λ y G q. far_side (in_units (fin false 0 e)) (in_units y) (2 ^ 1074) (zero_units binary64 false e);
  smaller = λ y G q. none (in_units (fin false 0 e)) (in_units y) (zero_units binary64 false e);
}
  where
    far_side : (r y u : ℕ) → r ≡ 0 → r < y → 4 * (r * u) < (r + y) * (r + y)
    far_side r zero u z l = absurd (omega arith)
    far_side r (suc y) u z l = subst (λ (n : ℕ). 4 * (n * u) < (n + suc y) * (n + suc y)) (sym z) (omega arith)

    none : (r y : ℕ) {n : ℕ} → r ≡ 0 → y < r → (r + y) * (r + y) < n
    none r y z l = absurd (omega arith)

-- ---- of every x from 0 up

pub sqrt_nearest : SqrtNearest
sqrt_nearest nan F p = absurd p
sqrt_nearest (inf s) F p = absurd p
sqrt_nearest (fin true m e) F p = absurd p
sqrt_nearest (fin false zero e) F p = unfold sqrt_of in zero_nearest e F
sqrt_nearest (fin false (suc m) e) F p =
    let b = in_format binary64 false m e F in
    let v : HasValue (fin false (suc m) e) false (suc m * 2 ^ place_of binary64 e) (2 ^ 1074) = (refl, at_place binary64 (suc m) e b.1) in
    let is = units_of binary64 (fin false (suc m) e) false (suc m * 2 ^ place_of binary64 e) v in
    let u : suc m * 2 ^ place_of binary64 e < 2 ^ 2098 = subst (λ (n : ℕ). n < 2 ^ 2098) is (units_lt binary64 (fin false (suc m) e) F) in
    parts_nearest (fin false (suc m) e) (record { some = zero-lt-suc m; few = b.0; near = near (place_of binary64 e) u }) v
  where
    least : (x y : ℕ) → x ≤ suc y * x
    least x y = omega arith

    near : (j : ℕ) → suc m * 2 ^ j < 2 ^ 2098 → j ≤ 2097
    near j l = le_of_suc-le-suc (lt_of_pow_lt j 2098 (lt_of_le_of_lt (least (2 ^ j) m) l))

-- ---- and of nothing else

not_less : (x r t : Float) → NearestRoot x r → NearestRoot x t → in_units r < in_units t → ⊥
not_less x r t h k l = go (in_units r) (in_units t) (h.larger t k.held k.from_zero l) (k.smaller r h.held h.from_zero l)
  where
    go : (a b : ℕ) {c : ℕ} → c < (a + b) * (a + b) → (b + a) * (b + a) < c → ⊥
    go a b f g = omega arith

pub nearest_root_unique : NearestRootUnique
nearest_root_unique x r t h k =
    same_units binary64 r t h.held k.held h.from_zero k.from_zero (equal (in_units r) (in_units t) (not_less x r t h k) (not_less x t r k h))
  where
    equal : (a b : ℕ) → (a < b → ⊥) → (b < a → ⊥) → a ≡ b
    equal a b p q = omega arith
