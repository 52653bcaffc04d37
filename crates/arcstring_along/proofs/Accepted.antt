-- A string that `Stored::accept` gave, or refused, in the words of a call's answer: the checks of its two lists in turn, and then what follows them. Assumes
-- nothing.
use Rattle.std.specs.Prelude.{Result, Err}
use Rattle.std.specs.Result.{IsErrAnd}
use mathlib.Core.Path.{◌≡◌, refl, sym, ap, ◌∙◌}
use mathlib.Core.Bool.{Bool}
use mathlib.Core.List.{List}
use Prim.Native.Nat.{ℕ}
use lib.Ieee.{Float}
use Rattle.arcstring_check.specs.declared.check.Refusal.{Refusal}
use Rattle.arcstring_check.specs.Answer.{Answer, unless_refused, first_of, refusal_number, answer_of}
use Rattle.arcstring_check.specs.Check.{stored_check}
use Rattle.arcstring_check.proofs.Answers.{left, first_refused, stopped, pass, in-turn}
use Rattle.arcstring.specs.Points.{ArcString}
use Rattle.arcstring_along.specs.OnString.{stored, string_of}
use Rattle.arcstring_along.specs.declared.inner.stored.Stored.{Stored}

-- ---- of two checks in turn the first that refuses, and the second where the first passes

pub first_refuses : (e : Refusal) (m n : ℕ) → refusal_number e ≡ m → refusal_number e ≡ first_of m n
first_refuses e m n h = first_refused (Err e) e n refl ∙ ap (λ (k : ℕ). first_of k n) h

pub second_refuses : (e : Refusal) (m n : ℕ) → 0 ≡ m → refusal_number e ≡ n → refusal_number e ≡ first_of m n
second_refuses e m n h g = g ∙ ap (λ (k : ℕ). first_of k n) h

-- ---- the call's answer

-- a string that is refused
pub string_refused : {A : Type 0} (r : Result A Refusal) (e : Refusal) (v near : List Float) (x : Answer A) → IsErrAnd r (λ f. f ≡ e)
    → refusal_number e ≡ first_of (stored_check v) (stored_check near) → answer_of r ≡ unless_refused (stored_check v) (unless_refused (stored_check near) x)
string_refused r e v near x given number =
    left r e given ∙ stopped e (first_of (stored_check v) (stored_check near)) x number ∙ in-turn (stored_check v) (stored_check near) x

-- a string that is accepted: of what follows the checks, f says what it is of a string
pub string_accepted : {A : Type 0} (s : Stored) {v near : List Float} {closed : Bool} (f : ArcString → Answer A)
    → (s.v.now ≡ v) × (s.near.now ≡ near) × (s.closed ≡ closed)
    → f (string_of s) ≡ unless_refused (stored_check v) (unless_refused (stored_check near) (f (stored v near closed)))
string_accepted s {v} {near} {closed} f same =
    (λ i. f (stored (same.0 i) (same.1 i) (same.2 i)))
    ∙ sym (pass (stored_check near) (f (stored v near closed)) (ap stored_check (sym same.1) ∙ s.accepted.1))
    ∙ sym (pass (stored_check v) (unless_refused (stored_check near) (f (stored v near closed))) (ap stored_check (sym same.0) ∙ s.accepted.0))
