-- What is returned where a check refuses, and two checks in turn: where the first that refuses is one, and where there is none. Assumes nothing.
use Rattle.std.specs.Prelude.{Result}
use Rattle.std.specs.Result.{IsErrAnd}
use Rattle.std.proofs.lemmas.Result.{err_from_is_err_and}
use mathlib.Core.Path.{◌≡◌, ◌∙◌}
use Prim.Native.Nat.{ℕ}
use Rattle.arcstring_check.specs.declared.check.Refusal.{Refusal}
use Rattle.arcstring_check.specs.Answer.{Answer, refused, unless_refused, first_of, answer_of, refusal_number}
use Rattle.arcstring_check.proofs.Answers.{in-turn, stopped, went_on}

pub left_with : {A : Type 0} (r : Result A Refusal) (e : Refusal) → IsErrAnd r (λ y. y ≡ e) → answer_of r ≡ refused (refusal_number e)
left_with r e h = let p = err_from_is_err_and r h in rw (p.1, p.2)

pub stopped_last : {A : Type 0} (e : Refusal) (m n : ℕ) (x : Answer A) → refusal_number e ≡ first_of m n
    → refused (refusal_number e) ≡ unless_refused m (unless_refused n x)
stopped_last e m n x h = stopped e (first_of m n) x h ∙ in-turn m n x

pub went_on_last : {A : Type 0} (m n : ℕ) (x : Answer A) → 0 ≡ first_of m n → x ≡ unless_refused m (unless_refused n x)
went_on_last m n x h = went_on (first_of m n) x h ∙ in-turn m n x
