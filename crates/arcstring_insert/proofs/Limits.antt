-- What is answered past the check of 1,024 points comes of what was checked. Assumes nothing.
use mathlib.Core.Path.{◌≡◌, refl, ap}
use mathlib.Core.Bool.{Bool, true, false}
use Prim.Native.Nat.{ℕ, ◌≤◌}
use native.Mathlib.Omega.{arith}
use lib.Dec.{ltb}
use borrow.Author.Tests.{ltb-false}
use Rattle.arcstring_check.specs.Answer.{Answer, answered, unless_refused, and_then, number_if}
use Rattle.arcstring_check.specs.Check.{most_points}
use Rattle.arcstring_insert.specs.Steps.{limited}

module _ {A B : Type 0} (x : A) (f : A → Answer B) (y : B) where
  past_by : (t : Bool) → and_then (unless_refused (number_if t 3) (answered x)) f ≡ answered y → f x ≡ answered y
  past_by true h = absurd (let z : ◌≡◌ {A = ℕ} 0 1 = cc in omega arith)
  past_by false h = h

  pub past_limit : (size : ℕ) → and_then (limited size x) f ≡ answered y → f x ≡ answered y
  unfolding limited
  past_limit size h = past_by (ltb most_points size) h

pub within_limit : {A : Type 0} (x y : A) (size : ℕ) → limited size x ≡ answered y → x ≡ y
within_limit {A} x y size h = let e : answered x ≡ answered y = past_limit x answered y size (ap (λ (a : Answer A). and_then a answered) h) in cc

-- and that is no larger
pub under_limit : {A : Type 0} (x y : A) (size : ℕ) → limited size x ≡ answered y → size ≤ most_points
unfolding limited
under_limit {A} x y size h = by_test (ltb most_points size) refl h
  where
    by_test : (t : Bool) → ltb most_points size ≡ t → unless_refused (number_if t 3) (answered x) ≡ answered y → size ≤ most_points
    by_test true e k = absurd (let z : ◌≡◌ {A = ℕ} 0 1 = cc in omega arith)
    by_test false e k = ltb-false most_points size e
