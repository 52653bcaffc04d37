-- The fewest decimal digits that hold a number are its decimal text. Assumes nothing.
use mathlib.Core.Path.{◌≡◌, refl, sym, ap, ◌∙◌}
use mathlib.Core.Bool.{Bool, true, false}
use mathlib.Core.List.{List, [], ◌∷◌, ◌++◌}
use Prim.Native.Nat.{ℕ, zero, suc, ◌+◌, ◌-◌, ◌*◌, ◌/◌, ◌%◌, ◌^◌, ◌≤◌, ◌<◌, max}
use native.Mathlib.Nat.{pow-suc, one-le-pow, pow-le-pow_right}
use native.Mathlib.Numerals.{add-one}
use native.Mathlib.Omega.{arith}
use lib.Dec.{ltb}
use borrow.Author.Tests.{lt-ltb, le-ltb, ltb-true, ltb-false}
use Rattle.arcstring_check.specs.Answer.{pick}
use Rattle.textform.specs.Digits.{last_digits, IsDigitCount}
use Rattle.textform.specs.Print.{most_digits, decimal_within, decimal}

-- ---- how many digits

-- one more than the logarithm to base 10, and one for 0
pub by_logarithm : (n m k : ℕ) → m ≡ max n 1 → 10 ^ k ≤ m → m < 10 * 10 ^ k → IsDigitCount n (k + 1)
by_logarithm n m k e low high =
    let p = pow-suc 10 k in
    let front : k + 1 - 1 ≡ k = omega arith in
    let least : 1 < k + 1 → 10 ^ k ≤ n = λ some. let more : 10 ^ 1 ≤ 10 ^ k = pow-le-pow_right {n = 10} (omega arith) {i = 1} {j = k} (omega arith) in
    omega arith in
    (omega arith, rw add-one (omega arith), rw front least)

-- ---- the fewest digits

-- whether one digit is enough
pub by_test : (most n : ℕ) {t : Bool} → ltb n 10 ≡ t
    → pick t ((48 + n) ∷ []) (decimal_within most (n / 10) ++ ((48 + n % 10) ∷ [])) ≡ decimal_within (suc most) n
unfolding decimal_within
by_test most n e = sym (ap (λ (t : Bool). pick t ((48 + n) ∷ []) (decimal_within most (n / 10) ++ ((48 + n % 10) ∷ []))) e)

-- a number below 10
one_digit : (most n : ℕ) → n < 10 → (48 + n % 10) ∷ [] ≡ decimal_within (suc most) n
one_digit most n h =
    let e : 48 + n % 10 ≡ 48 + n = omega arith in
    ap (λ (d : ℕ). d ∷ []) e ∙ by_test most n (lt-ltb n 10 h)

-- one digit more
more_digits : (most n : ℕ) (front : List ℕ) → 10 ≤ n → front ≡ decimal_within most (n / 10) → front ++ ((48 + n % 10) ∷ []) ≡ decimal_within (suc most) n
more_digits most n front h e = ap (λ (l : List ℕ). l ++ ((48 + n % 10) ∷ [])) e ∙ by_test most n (le-ltb n 10 h)

fewest_decimal : (k most n : ℕ) → k ≤ most → IsDigitCount n k → last_digits k n ≡ decimal_within most n
fewest_decimal zero most n h f = absurd (let z = f.0 in omega arith)
fewest_decimal (suc k) zero n h f = absurd (omega arith)
fewest_decimal (suc zero) (suc most) n h f = one_digit most n f.1
fewest_decimal (suc (suc j)) (suc most) n h f =
    let p = pow-suc 10 j in
    let q = pow-suc 10 (suc j) in
    let some : 1 ≤ 10 ^ j = one-le-pow j 10 (omega arith) in
    let one_less : suc (suc j) - 1 ≡ suc j = omega arith in
    let two-less : suc j - 1 ≡ j = omega arith in
    let least : 10 ^ suc j ≤ n = rw one_less at (f.2 (omega arith)) in
    let below = f.1 in
    more_digits most n (last_digits (suc j) (n / 10)) (omega arith)
    (fewest_decimal (suc j) most (n / 10) (omega arith) (omega arith, omega arith, λ _. rw two-less (omega arith)))

-- a 64-bit number has no more
module _ (k n : ℕ) (h : n < 2 ^ 64) (f : IsDigitCount n k) where
  few_by : (b : Bool) → ltb most_digits k ≡ b → k ≤ most_digits
  few_by false e = ltb-false most_digits k e
  few_by true e =
      let many = ltb-true most_digits k e in
      let least = f.2 (omega arith) in
      let more : 10 ^ most_digits ≤ 10 ^ (k - 1) = pow-le-pow_right {n = 10} (omega arith) {i = most_digits} {j = k - 1} (omega arith) in
      absurd (omega arith)

  pub fewest_few : k ≤ most_digits
  fewest_few = few_by (ltb most_digits k) refl

-- the digits that are written of a 64-bit number
pub decimal_digits : (k n : ℕ) → n < 2 ^ 64 → IsDigitCount n k → last_digits k n ≡ decimal n
unfolding decimal
decimal_digits k n h f = fewest_decimal k most_digits n (fewest_few k n h f) f
