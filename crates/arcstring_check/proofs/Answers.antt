-- How a check's number decides an answer: a refusal's number is the answer whatever would follow, and 0 lets what follows be the answer. Assumes nothing.
use Rattle.std.specs.Prelude.{Result, Ok, Err}
use Rattle.std.specs.Result.{IsErrAnd}
use Rattle.std.proofs.lemmas.Result.{err_from_is_err_and}
use mathlib.Core.Path.{◌≡◌, refl, sym, ap, ◌∙◌}
use mathlib.Core.List.{List, [], ◌∷◌}
use Prim.Native.Nat.{ℕ, zero, suc}
use native.Mathlib.Omega.{arith}
use Rattle.arcstring_check.specs.declared.check.Refusal.{Refusal}
use Rattle.arcstring_check.specs.declared.check.Refusal.TheVariants.{NotTriples, TooFewPoints, TooManyPoints, OutOfRange, RemovesPastEnd, ReadsPastEnd}
use Rattle.arcstring_check.specs.declared.check.Refusal.TheVariants.{NoRoom, MarginOutOfRange, BuoysNotAsMany}
use Rattle.arcstring_check.specs.Check.{check_number}
use Rattle.arcstring_check.specs.Answer.{Answer, refused, answered, answer_of, unless_refused, map_answer, and_then, first_of, refusal_number}

at_refusal : {A : Type 0} (e : Refusal) (x : Answer A) → refused (refusal_number e) ≡ unless_refused (refusal_number e) x
at_refusal NotTriples x = refl
at_refusal TooFewPoints x = refl
at_refusal TooManyPoints x = refl
at_refusal OutOfRange x = refl
at_refusal RemovesPastEnd x = refl
at_refusal ReadsPastEnd x = refl
at_refusal NoRoom x = refl
at_refusal MarginOutOfRange x = refl
at_refusal BuoysNotAsMany x = refl

pub refuse : {A : Type 0} (e : Refusal) (n : ℕ) (x : Answer A) → n ≡ refusal_number e → refused (refusal_number e) ≡ unless_refused n x
refuse e n x h = at_refusal e x ∙ sym (ap (λ (m : ℕ). unless_refused m x) h)

pub pass : {A : Type 0} (n : ℕ) (x : Answer A) → n ≡ 0 → unless_refused n x ≡ x
pass n x h = ap (λ (m : ℕ). unless_refused m x) h

-- a check's promise where its answer was `Err`, and where it was `Ok`
pub stopped : {A : Type 0} (e : Refusal) (n : ℕ) (x : Answer A) → refusal_number e ≡ n → refused (refusal_number e) ≡ unless_refused n x
stopped e n x h = refuse e n x (sym h)

pub went_on : {A : Type 0} (n : ℕ) (x : Answer A) → 0 ≡ n → x ≡ unless_refused n x
went_on n x h = sym (pass n x (sym h))

-- what a `?` returns where the answer was `Err`
pub left : {A : Type 0} (r : Result A Refusal) (e : Refusal) → IsErrAnd r (λ y. y ≡ e) → answer_of r ≡ refused (refusal_number e)
left r e h = let p = err_from_is_err_and r h in rw (p.1, p.2)

pub check_left : (r : Result Unit Refusal) (e : Refusal) → IsErrAnd r (λ y. y ≡ e) → check_number r ≡ refusal_number e
check_left r e h = let p = err_from_is_err_and r h in rw (p.1, p.2)

-- where a check passes is all that matters of what follows it
pub where_passed : {A : Type 0} (n : ℕ) (x y : Answer A) → (n ≡ 0 → x ≡ y) → unless_refused n x ≡ unless_refused n y
where_passed zero x y h = h refl
where_passed (suc n) x y h = refl

-- two checks, one after the other, are the first of the two that refuses
pub in-turn : {A : Type 0} (m n : ℕ) (x : Answer A) → unless_refused (first_of m n) x ≡ unless_refused m (unless_refused n x)
in-turn zero n x = refl
in-turn (suc m) n x = refl

-- both of two checks pass where the first that refuses is none
pub first_passes : (m n : ℕ) → first_of m n ≡ 0 → m ≡ 0
first_passes zero n h = refl
first_passes (suc m) n h = h

pub second_passes : (m n : ℕ) → first_of m n ≡ 0 → n ≡ 0
second_passes zero n h = h
second_passes (suc m) n h = absurd (let z : suc m ≡ 0 = h in omega arith)

pub first_alone : (m : ℕ) → first_of m 0 ≡ m
first_alone zero = refl
first_alone (suc m) = refl

-- and both pass where something is answered
pub both_passed : {A : Type 0} (m n : ℕ) (x y : A) → unless_refused m (unless_refused n (answered x)) ≡ answered y → (m ≡ 0) × (n ≡ 0) × (x ≡ y)
both_passed zero zero x y h = (refl, refl, cc)
both_passed zero (suc n) x y h = absurd (let z : ◌≡◌ {A = ℕ} 0 1 = cc in omega arith)
both_passed (suc m) n x y h = absurd (let z : ◌≡◌ {A = ℕ} 0 1 = cc in omega arith)

-- and all of three
pub all_passed : {A : Type 0} (m n k : ℕ) (x y : A) → unless_refused m (unless_refused n (unless_refused k (answered x))) ≡ answered y
    → (m ≡ 0) × (n ≡ 0) × (k ≡ 0) × (x ≡ y)
all_passed zero n k x y h = let p = both_passed n k x y h in (refl, p.0, p.1, p.2)
all_passed (suc m) n k x y h = absurd (let z : ◌≡◌ {A = ℕ} 0 1 = cc in omega arith)

refusal_first : (e : Refusal) (n : ℕ) → refusal_number e ≡ first_of (refusal_number e) n
refusal_first NotTriples n = refl
refusal_first TooFewPoints n = refl
refusal_first TooManyPoints n = refl
refusal_first OutOfRange n = refl
refusal_first RemovesPastEnd n = refl
refusal_first ReadsPastEnd n = refl
refusal_first NoRoom n = refl
refusal_first MarginOutOfRange n = refl
refusal_first BuoysNotAsMany n = refl

-- ---- the same, for code that took a check's answer apart

module _ {A : Type 0} (k : Result Unit Refusal) where
  pub answer_refused : (e : Refusal) (n : ℕ) (x : Answer A) → k ≡ Err e → check_number k ≡ n → refused (refusal_number e) ≡ unless_refused n x
  answer_refused e n x h g = refuse e n x (sym g ∙ ap check_number h)

  pub answer_accepted : (n : ℕ) (x : Answer A) → k ≡ Ok tt → check_number k ≡ n → x ≡ unless_refused n x
  answer_accepted n x h g = sym (pass n x (sym g ∙ ap check_number h))

pub first_refused : (k : Result Unit Refusal) (e : Refusal) (n : ℕ) → k ≡ Err e → refusal_number e ≡ first_of (check_number k) n
first_refused k e n h = refusal_first e n ∙ sym (ap (λ (x : Result Unit Refusal). first_of (check_number x) n) h)

pub both_numbers : {k l m n : ℕ} → k ≡ m → l ≡ n → first_of k l ≡ first_of m n
both_numbers p q = λ i. first_of (p i) (q i)

-- ---- so many checks in turn

-- the number of the first that refuses
abbrev pub in_turn : ℕ → List ℕ → ℕ
in_turn n [] = n
in_turn n (m ∷ ms) = first_of n (in_turn m ms)

-- the answer x, unless one of them refuses
abbrev pub unless_any : {A : Type 0} → ℕ → List ℕ → Answer A → Answer A
unless_any n [] x = unless_refused n x
unless_any n (m ∷ ms) x = unless_refused n (unless_any m ms x)

-- none of them refuses
abbrev pub AllPass : ℕ → List ℕ → Type 0
AllPass n [] = n ≡ 0
AllPass n (m ∷ ms) = (n ≡ 0) × AllPass m ms

all_in_turn : {A : Type 0} (n : ℕ) (ms : List ℕ) (x : Answer A) → unless_refused (in_turn n ms) x ≡ unless_any n ms x
all_in_turn n [] x = refl
all_in_turn n (m ∷ ms) x = in-turn n (in_turn m ms) x ∙ ap (unless_refused n) (all_in_turn m ms x)

all_pass : (n : ℕ) (ms : List ℕ) → in_turn n ms ≡ 0 → AllPass n ms
all_pass n [] h = h
all_pass n (m ∷ ms) h = (first_passes n (in_turn m ms) h, all_pass m ms (second_passes n (in_turn m ms) h))

module _ (k : Result Unit Refusal) where
  pub refused_in_turn : {A : Type 0} (e : Refusal) (n : ℕ) (ms : List ℕ) (x : Answer A) → k ≡ Err e → check_number k ≡ in_turn n ms
      → refused (refusal_number e) ≡ unless_any n ms x
  refused_in_turn e n ms x h g = answer_refused k e (in_turn n ms) x h g ∙ all_in_turn n ms x

  pub accepted_in_turn : {A : Type 0} (n : ℕ) (ms : List ℕ) (x : Answer A) → k ≡ Ok tt → check_number k ≡ in_turn n ms → x ≡ unless_any n ms x
  accepted_in_turn n ms x h g = answer_accepted k (in_turn n ms) x h g ∙ all_in_turn n ms x

  pub passed_in_turn : (n : ℕ) (ms : List ℕ) → k ≡ Ok tt → check_number k ≡ in_turn n ms → AllPass n ms
  passed_in_turn n ms h g = all_pass n ms (sym g ∙ ap check_number h)

-- ---- what follows an answer, and a refusal

module _ {A B : Type 0} (a : Answer A) (f : A → Answer B) where
  pub then_refused : (n : ℕ) → a ≡ refused n → and_then a f ≡ refused n
  then_refused n h = ap (λ (x : Answer A). and_then x f) h

  pub then_answered : (x : A) → a ≡ answered x → and_then a f ≡ f x
  then_answered x h = ap (λ (y : Answer A). and_then y f) h

pub then_same : {A B : Type 0} (a : Answer A) (f g : A → Answer B) → ((x : A) → f x ≡ g x) → and_then a f ≡ and_then a g
then_same (refused n) f g same = refl
then_same (answered x) f g same = same x

-- ---- an answer's values changed, after a check and before what follows

module _ {A B : Type 0} (f : A → B) where
  pub map_unless : (n : ℕ) (a : Answer A) → map_answer f (unless_refused n a) ≡ unless_refused n (map_answer f a)
  map_unless zero a = refl
  map_unless (suc n) a = refl

  -- steps that go over into one another by f do so in turn
  pub map_then : (a : Answer A) (g : A → Answer A) (h : B → Answer B) → ((x : A) → map_answer f (g x) ≡ h (f x))
      → map_answer f (and_then a g) ≡ and_then (map_answer f a) h
  map_then (refused n) g h same = refl
  map_then (answered x) g h same = same x

-- what answers was answered before: past a check that did not refuse, and by the step before the last
pub unless_answered : {A : Type 0} (n : ℕ) (a : Answer A) (y : A) → unless_refused n a ≡ answered y → a ≡ answered y
unless_answered zero a y h = h
unless_answered (suc n) a y h = absurd (let z : ◌≡◌ {A = ℕ} 0 1 = cc in omega arith)

pub answered_before : {A B : Type 0} (a : Answer A) (f : A → Answer B) (y : B) → and_then a f ≡ answered y → (x : A) × (a ≡ answered x) × (f x ≡ answered y)
answered_before (refused n) f y h = absurd (let z : ◌≡◌ {A = ℕ} 0 1 = cc in omega arith)
answered_before (answered x) f y h = (x, refl, h)

-- an answer is one value
pub same_answer : {A : Type 0} (x y : A) → answered x ≡ answered y → x ≡ y
same_answer x y h = cc
