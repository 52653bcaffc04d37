-- What rounding does with the sign, and with zero: it is odd in the sign, and takes 0 to a zero. Assumes nothing.
use mathlib.Core.Path.{◌≡◌, refl, sym, ap, ◌∙◌}
use Prim.Native.Nat.compare
use Prim.Native.Nat.{ℕ, zero, suc, ◌+◌, ◌-◌, ◌*◌, ◌/◌, ◌%◌, ◌^◌, compare}
use native.Mathlib.Nat.{zero-mul, zero-div, zero-mod}
use mathlib.Core.Bool.{Bool, true, false, not, cond}
use lib.Dec.{T, ltb, lt→ltb}
use lib.Pow.{pow_pos}
use lib.Ieee.{inf, Format, prec, emax, low, size, nearest, odd, units, round, neg}
use lib.Ieee.Fits.{round_is}
use Rattle.ieee754.specs.Value.{vzero, value}

odd_neg : (d : ℕ) (s : Bool) (q k l : ℕ) → neg (odd d s q k l) ≡ odd d (not s) q k l
unfolding odd neg
odd_neg d s zero k l = refl
odd_neg d s (suc q) k l = refl

units_neg : (f : Format) (s : Bool) (q k : ℕ) → neg (units f s q k) ≡ units f (not s) q k
unfolding units
units_neg f s q k = go (ltb (q * 2 ^ k) (2 ^ (low f + suc (emax f))))
  where
    go : (b : Bool) → neg (cond b (odd (suc (prec f)) s q k (low f)) (inf s)) ≡ cond b (odd (suc (prec f)) (not s) q k (low f)) (inf (not s))
    go true = odd_neg (suc (prec f)) s q k (low f)
    go false = unfold neg in refl

pub round_neg : (f : Format) (s : Bool) (a c : ℕ) → neg (round f s a c) ≡ round f (not s) a c
round_neg f s a c = ap neg (round_is f s a c) ∙ units_neg f s _ _ ∙ sym (round_is f (not s) a c)

near_zero : (u : ℕ) → nearest 0 (compare 0 u) ≡ 0
near_zero zero = refl
near_zero (suc u) = ap (nearest 0) (compare.zero-suc u)

units_zero : (f : Format) (s : Bool) (k : ℕ) → value (units f s 0 k) ≡ vzero
unfolding units odd
units_zero f s k = go (ltb (0 * 2 ^ k) (2 ^ (low f + suc (emax f)))) (rw zero-mul (lt→ltb 0 (2 ^ (low f + suc (emax f))) (pow_pos (low f + suc (emax f)))))
  where
    go : (b : Bool) → T b → value (cond b (odd (suc (prec f)) s 0 k (low f)) (inf s)) ≡ vzero
    go true t = refl
    go false t = absurd t

pub round_zero : (f : Format) (s : Bool) (c : ℕ) → value (round f s 0 c) ≡ vzero
round_zero f s c =
    let k = size (0 * 2 ^ low f / c) - prec f in
    let u = c * 2 ^ k in
    ap value (round_is f s 0 c)
    ∙ ap (λ (n : ℕ). value (units f s (nearest (n / u) (compare (n % u * 2) u)) k)) (zero-mul (2 ^ low f))
    ∙ ap (λ (n : ℕ). value (units f s (nearest n (compare (0 % u * 2) u)) k)) (zero-div u)
    ∙ ap (λ (n : ℕ). value (units f s (nearest 0 (compare (n * 2) u)) k)) (zero-mod u)
    ∙ ap (λ (n : ℕ). value (units f s n k)) (near_zero u)
    ∙ units_zero f s k
