-- What a call answers, in the words of docs/TERMS.md: the number of a refusal, or a result; and what it leaves in a buffer that was lent to it. Definitions
-- only.
use Rattle.std.specs.Prelude as Std
use Rattle.std.specs.Prelude.{Bool, true, false, List, ◌++◌, ℕ, zero, suc, length, drop, Result, Ok, Err, Some, None}
use Rattle.std.proofs.Math.Option.{Option, none, some}
use Rattle.arcstring_check.specs.declared.check.Refusal.{Refusal}
use Rattle.arcstring_check.specs.declared.check.Refusal.TheVariants.{NotTriples, TooFewPoints, TooManyPoints, OutOfRange, RemovesPastEnd, ReadsPastEnd}
use Rattle.arcstring_check.specs.declared.check.Refusal.TheVariants.{NoRoom, MarginOutOfRange, BuoysNotAsMany}

-- the numbers of docs/TERMS.md's table of refusals
abbrev pub refusal_number : Refusal → ℕ
refusal_number NotTriples = 1
refusal_number TooFewPoints = 2
refusal_number TooManyPoints = 3
refusal_number OutOfRange = 4
refusal_number RemovesPastEnd = 5
refusal_number ReadsPastEnd = 6
refusal_number NoRoom = 7
refusal_number MarginOutOfRange = 9
refusal_number BuoysNotAsMany = 10

pub data Answer (A : Type 0) : Type 0 where
  refused : ℕ → Answer A
  answered : A → Answer A

-- what a call answers, its refusal by number
abbrev pub answer_of : {A : Type 0} → Result A Refusal → Answer A
answer_of (Ok x) = answered x
answer_of (Err e) = refused (refusal_number e)

-- a value that may be missing, as the definitions have it
abbrev pub option_of : {A : Type 0} → Std.Option A → Option A
option_of (Some x) = some x
option_of None = none

-- A check gives the number of a refusal, or 0 where there is none.
abbrev pub number_if : Bool → ℕ → ℕ
number_if true n = n
number_if false n = 0

-- the number of the first of two checks that refuses
abbrev pub first_of : ℕ → ℕ → ℕ
first_of zero n = n
first_of (suc m) n = suc m

module _ {A : Type 0} where
  -- the answer x, unless a check refuses
  abbrev pub unless_refused : ℕ → Answer A → Answer A
  unless_refused zero x = x
  unless_refused (suc n) x = refused (suc n)

  -- a lent buffer after the call: as it came where the call refuses; else the result at its start, and what lies past the result as it came
  abbrev pub leaves : Answer (List A) → List A → List A
  leaves (refused n) old = old
  leaves (answered new) old = new ++ drop (length new) old

-- a verdict, or whether a string is closed, as it is written: 1 or 0
abbrev pub flag_number : Bool → ℕ
flag_number true = 1
flag_number false = 0

-- one of two by a test
abbrev pub pick : {A : Type 0} → Bool → A → A → A
pick true x y = x
pick false x y = y

module _ {A B : Type 0} where
  abbrev pub map_answer : (A → B) → Answer A → Answer B
  map_answer f (refused n) = refused n
  map_answer f (answered x) = answered (f x)

  -- what follows an answer; a refusal stays
  abbrev pub and_then : Answer A → (A → Answer B) → Answer B
  and_then (refused n) f = refused n
  and_then (answered x) f = f x
