-- What the pattern of a finite number with the sign clear is read as: its significand, so many places up. Assumes nothing.
use mathlib.Core.Path.{◌≡◌, refl, ap, ◌∙◌}
use mathlib.Core.Bool.{Bool, false, cond}
use Prim.Native.Nat.{ℕ, zero, suc, ◌+◌, ◌-◌, ◌*◌, ◌/◌, ◌%◌, ◌^◌, ◌≤◌, ◌<◌, min}
use native.Mathlib.Nat.{mod-eq_of_lt}
use native.Mathlib.Omega.{arith}
use lib.Dec.{leb, eqb}
use lib.Ieee.{nan, inf, binary64, odd, of_fields, of_bits}
use borrow.Author.Tests.{lt-leb, ne_eqb}
use Rattle.square_root.specs.RootStep.{significand_of}

fields : (x t : ℕ) → x < 2047 → of_fields binary64 false x t ≡ odd 53 false (t + 2 ^ 52 * min x 1) (x - 1) 1074
unfolding of_fields
fields zero t l = let e : t ≡ t + 2 ^ 52 * min 0 1 = omega arith in ap (λ (q : ℕ). odd 53 false q 0 1074) e
fields (suc x) t l =
    let other : suc x ≡ 2047 → ⊥ = omega arith in
    let lead : 2 ^ 52 + t ≡ t + 2 ^ 52 * min (suc x) 1 = omega arith in
    let less : x ≡ suc x - 1 = omega arith in
    ap (λ (b : Bool). cond b (cond (eqb t 0) (inf false) nan) (odd 53 false (2 ^ 52 + t) x 1074)) (ne_eqb (suc x) 2047 other)
    ∙ ap (λ (q : ℕ). odd 53 false q x 1074) lead
    ∙ ap (λ (k : ℕ). odd 53 false (t + 2 ^ 52 * min (suc x) 1) k 1074) less

by_fields : (b : ℕ) → of_bits binary64 b ≡ of_fields binary64 (leb (2 ^ 63) b) (b % 2 ^ 63 / 2 ^ 52) (b % 2 ^ 52)
unfolding of_bits
by_fields b = refl

pub read : (b : ℕ) → b < 0x7ff0_0000_0000_0000 → of_bits binary64 b ≡ odd 53 false (significand_of b) (b / 2 ^ 52 - 1) 1074
read b l =
    let under : b < 2 ^ 63 = omega arith in
    let field : b / 2 ^ 52 < 2047 = omega arith in
    by_fields b
    ∙ ap (λ (s : Bool). of_fields binary64 s (b % 2 ^ 63 / 2 ^ 52) (b % 2 ^ 52)) (lt-leb (2 ^ 63) b under)
    ∙ ap (λ (x : ℕ). of_fields binary64 false (x / 2 ^ 52) (b % 2 ^ 52)) (mod-eq_of_lt under)
    ∙ fields (b / 2 ^ 52) (b % 2 ^ 52) field

-- a pattern put together from a significand with its leading one, and its place
module _ (k q : ℕ) (lo : 2 ^ 52 ≤ q) (hi : q < 2 ^ 53) (near : k < 2045) where
  pub joined_lt : k * 2 ^ 52 + q < 0x7ff0_0000_0000_0000
  joined_lt = omega arith

  pub joined : of_bits binary64 (k * 2 ^ 52 + q) ≡ odd 53 false q k 1074
  joined =
      let digits : significand_of (k * 2 ^ 52 + q) ≡ q = omega arith in
      let place : (k * 2 ^ 52 + q) / 2 ^ 52 - 1 ≡ k = omega arith in
      read (k * 2 ^ 52 + q) joined_lt
      ∙ ap (λ (d : ℕ). odd 53 false d ((k * 2 ^ 52 + q) / 2 ^ 52 - 1) 1074) digits
      ∙ ap (λ (e : ℕ). odd 53 false q e 1074) place
