-- The gaps between floats: a float's size is a number of few digits, some places up, and so of two floats the smaller is below the larger by a certain part
-- of it at least. There is no case for a power of two, and none for what lies below the normal range. For both formats. Assumes nothing.
use mathlib.Core.Path.{◌≡◌, refl, sym, ap, ◌∙◌, subst}
use Prim.Native.Nat.{ℕ, zero, suc, ◌+◌, ◌-◌, ◌*◌, ◌^◌, ◌≤◌, ◌<◌}
use native.Mathlib.Nat.{mul_assoc, mul-le-mul_left, mul-le-mul_right, lt_of_mul-lt-mul_right}
use native.Mathlib.Decide.{dec_le}
use native.Mathlib.Omega.{arith}
use lib.Dec.{T}
use lib.Pow.{pow-add, pow_pos}
use lib.Ieee.{Float, nan, inf, fin, Format, prec, fits}
use lib.Ieee.Digits.{back}
use Rattle.ieee754.specs.Units.{units_in}
use Rattle.ieee754.specs.RoundingLaws.{GapBelow}
use Rattle.ieee754.proofs.Units.{in_format, place_of, at_place, zero_units, units_of}

-- t has at most as many digits as the format f keeps, some places up
pub record Grid (f : Format) (t : ℕ) : Type 0 where
  pub digits : ℕ
  pub place : ℕ
  pub few : digits < 2 ^ prec f
  pub is : t ≡ digits * 2 ^ place

pub on_grid : (f : Format) (x : Float) → T (fits f x) → Grid f (units_in f x)
on_grid f nan F = record { digits = 0; place = 0; few = pow_pos (prec f); is = refl }
on_grid f (inf s) F = record { digits = 0; place = 0; few = pow_pos (prec f); is = refl }
on_grid f (fin s zero e) F = record { digits = 0; place = 0; few = pow_pos (prec f); is = zero_units f s e }
on_grid f (fin s (suc m) e) F =
    let b = in_format f s m e F in
    let is = units_of f (fin s (suc m) e) s (suc m * 2 ^ place_of f e) (refl, at_place f (suc m) e b.1) in
    record { digits = suc m; place = place_of f e; few = b.0; is = is }

-- the same number from a lower place on
pub lowered : (d j i : ℕ) → i ≤ j → d * 2 ^ j ≡ d * 2 ^ (j - i) * 2 ^ i
lowered d j i h = ap (λ (x : ℕ). d * 2 ^ x) (sym (back j i h)) ∙ ap (λ (x : ℕ). d * x) (pow-add 2 (j - i) i) ∙ sym (mul_assoc d (2 ^ (j - i)) (2 ^ i))

gap_at : (u a b w : ℕ) → a < u → a * w < b * w → u * (a * w) + b * w ≤ u * (b * w)
gap_at u a b w few h =
    let l : a < b = lt_of_mul-lt-mul_right w h in
    let v = b - (a + 1) in
    let e : b ≡ v + a + 1 = omega arith in
    let g : u * a + b ≤ u * b = omega (arith, ap (λ (z : ℕ). u * z) e, mul-le-mul_left v few) in
    omega (arith, mul-le-mul_right w g)

module _ (f : Format) (x y : ℕ) (h : x < y) where
  at : (a b w : ℕ) → a < 2 ^ prec f → x ≡ a * w → y ≡ b * w → 2 ^ prec f * x + y ≤ 2 ^ prec f * y
  at a b w few e g =
      subst (λ (z : ℕ). 2 ^ prec f * z + y ≤ 2 ^ prec f * y) (sym e)
      (subst (λ (z : ℕ). 2 ^ prec f * (a * w) + z ≤ 2 ^ prec f * z) (sym g)
      (gap_at (2 ^ prec f) a b w few (subst (λ (z : ℕ). a * w < z) g (subst (λ (z : ℕ). z < y) e h))))

  -- both from the lower of the two places on
  gap : Grid f x → Grid f y → 2 ^ prec f * x + y ≤ 2 ^ prec f * y
  gap X Y = go X.digits X.place Y.digits Y.place X.few Y.few X.is Y.is (dec_le X.place Y.place)
    where
      go : (a i b j : ℕ) → a < 2 ^ prec f → b < 2 ^ prec f → x ≡ a * 2 ^ i → y ≡ b * 2 ^ j → Dec (i ≤ j) → 2 ^ prec f * x + y ≤ 2 ^ prec f * y
      go a i b j few fewer e g (yes k) = at a (b * 2 ^ (j - i)) (2 ^ i) few e (g ∙ lowered b j i k)
      go a i b j few fewer e g (no k) =
          let e' : x ≡ a * 2 ^ (i - j) * 2 ^ j = e ∙ lowered a i j (omega arith) in
          let less : a * 2 ^ (i - j) < b = lt_of_mul-lt-mul_right (2 ^ j) (subst (λ (z : ℕ). z < b * 2 ^ j) e' (subst (λ (z : ℕ). x < z) g h)) in
          at (a * 2 ^ (i - j)) b (2 ^ j) (omega arith) e' g

pub gap_below : GapBelow
gap_below f x y F G h = gap f (units_in f x) (units_in f y) h (on_grid f x F) (on_grid f y G)
