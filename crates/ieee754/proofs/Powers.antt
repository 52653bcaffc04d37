-- A division by a power of two is a multiplication by its inverse: both round the same fraction. For every format and all floats. Assumes nothing.
use mathlib.Core.Path.{◌≡◌, refl, sym, ap, ◌∙◌}
use mathlib.Core.Bool.{false, true≢false}
use Prim.Native.Nat.{ℕ, zero, suc, ◌*◌}
use native.Mathlib.Nat.{mul_comm, one-mul}
use lib.IntN.{ℤ, pos, negsuc, neg_ℤ}
use lib.Ieee.{Float, nan, inf, fin, binary64, up, down, unlike, round, mul, div, eq}
use Rattle.ieee754.specs.PowerLaws.{DivPower, NotByInverse}

-- 2 ^ e is up e / down e, and 2 ^ -e the same upside down
up_inverse : (e : ℤ) → up (neg_ℤ e) ≡ down e
up_inverse (pos zero) = refl
up_inverse (pos (suc k)) = refl
up_inverse (negsuc k) = refl

down_inverse : (e : ℤ) → down (neg_ℤ e) ≡ up e
down_inverse (pos zero) = refl
down_inverse (pos (suc k)) = refl
down_inverse (negsuc k) = refl

pub div_power : DivPower
unfolding div mul
div_power f nan e = refl
div_power f (inf s) e = refl
div_power f (fin s m d) e =
    let over : down e ≡ 1 * up (neg_ℤ e) = sym (one-mul (up (neg_ℤ e)) ∙ up_inverse e) in
    let under : 1 * up e * down d ≡ down d * down (neg_ℤ e) = ap (λ (b : ℕ). b * down d) (one-mul (up e) ∙ sym (down_inverse e)) ∙ mul_comm (down (neg_ℤ e)) (down d) in
    ap (λ (a : ℕ). round f (unlike s false) (m * up d * a) (1 * up e * down d)) over
    ∙ ap (λ (b : ℕ). round f (unlike s false) (m * up d * (1 * up (neg_ℤ e))) b) under

-- ---- no other divisor

pub not_by_inverse : NotByInverse
unfolding div mul eq
not_by_inverse h = true≢false (ap (λ (x : Float). eq x (div binary64 (fin false 3 (pos 0)) (fin false 5 (pos 0)))) h)
