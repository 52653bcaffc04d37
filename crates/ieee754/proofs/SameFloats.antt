-- Floats of the same value, where +0 and -0 are one: their squares are the same float, the sign of a zero included, and so are their sizes, where a format
-- holds both. For every format and all floats, NaN and the infinities included. Assumes nothing.
use mathlib.Core.Path.{◌≡◌, refl, sym, ap, ◌∙◌}
use mathlib.Core.Logic.{inl, inr}
use mathlib.Core.Bool.{Bool, true, false}
use Prim.Native.Nat.{zero, suc, ◌*◌}
use native.Mathlib.Nat.{zero-mul, mul-pos, zero-lt-suc}
use lib.Dec.{T}
use lib.Ieee.{Float, nan, inf, fin, Format, up, down, unlike, round, fits, neg, mul}
use lib.Ieee.Fits.{down_pos}
use lib.Ieee.Scale.{round_same}
use lib.Ieee.Back.{whole_unique}
use Rattle.ieee754.specs.Value.{value, zero_float, is_zero, Alike}
use Rattle.ieee754.specs.Size.{abs}
use Rattle.ieee754.proofs.Arithmetic.{neg_neg, mul_neg_left, mul_neg_right}
use Rattle.ieee754.proofs.ByValue.{value_alike}

-- ---- squares

unlike_self : (s : Bool) → unlike s s ≡ false
unlike_self true = refl
unlike_self false = refl

-- the square of a zero is 0 / 1, rounded
zero_square : (f : Format) (x : Float) → T (is_zero x) → mul f x x ≡ round f false 0 1
zero_square f nan t = absurd t
zero_square f (inf s) t = absurd t
zero_square f (fin s (suc n) e) t = absurd t
zero_square f (fin s zero e) t =
    unfold mul in
    ap (λ (b : Bool). round f b (0 * up e * (0 * up e)) (down e * down e)) (unlike_self s)
    ∙ round_same f false (0 * up e * (0 * up e)) (down e * down e) 0 1 (mul-pos (down_pos e) (down_pos e)) (zero-lt-suc 0) (simp zero-mul)

pub same_square : (f : Format) (x y : Float) → value x ≡ value y → mul f x x ≡ mul f y y
same_square f x y p = go (value_alike x y p)
  where
    go : Alike x y → mul f x x ≡ mul f y y
    go (inl e) = ap (λ (z : Float). mul f z z) e
    go (inr z) = zero_square f x z.0 ∙ sym (zero_square f y z.1)

pub neg_square : (f : Format) (x : Float) → mul f (neg x) (neg x) ≡ mul f x x
neg_square f x = mul_neg_left f x (neg x) ∙ ap neg (mul_neg_right f x x) ∙ neg_neg (mul f x x)

-- ---- sizes

zero_size : (f : Format) (x : Float) → T (fits f x) → T (is_zero x) → abs x ≡ zero_float
zero_size f nan h t = absurd t
zero_size f (inf s) h t = absurd t
zero_size f (fin s (suc n) e) h t = absurd t
zero_size f (fin s zero e) h t = unfold abs fits in whole_unique f (fin false zero e) zero_float false 0 h tt (refl, simp zero-mul) (refl, refl)

pub same_size : (f : Format) (x y : Float) → T (fits f x) → T (fits f y) → value x ≡ value y → abs x ≡ abs y
same_size f x y h g p = go (value_alike x y p)
  where
    go : Alike x y → abs x ≡ abs y
    go (inl e) = ap abs e
    go (inr z) = zero_size f x h z.0 ∙ sym (zero_size f y g z.1)
