-- A refusal of the first leg, then of the second, else the class of the pair. Assumes nothing.
use mathlib.Core.Path.{◌≡◌, ap, ◌∙◌}
use Rattle.std.specs.Prelude.{Result}
use Rattle.std.specs.Result.{IsErrAnd}
use Rattle.std.proofs.lemmas.Result.{err_from_is_err_and}
use Rattle.arcstring_check.specs.declared.check.Refusal.{Refusal}
use Rattle.arcstring_check.specs.Answer.{refused, answered, refusal_number}
use Rattle.arcstring_check.proofs.Answers.{stopped, went_on}
use Rattle.arcstring_pair.specs.declared.pair.Pair.{Pair}
use Rattle.arcstring_pair.specs.Pair.{judged, arcs_crossing}
use Rattle.arcstring_crossing.specs.Crossing.{crossed_answer}
use Rattle.arcstring_crossing.proofs.crossing.arcs_crossing.Goals as goal

left : (r : Result Pair Refusal) (e : Refusal) → IsErrAnd r (λ y. y ≡ e) → crossed_answer r ≡ refused (refusal_number e)
left r e h = let p = err_from_is_err_and r h in rw (p.1, p.2)

pub returns-in_err-check_leg : goal.returns-in_err-check_leg
unfolding arcs_crossing
returns-in_err-check_leg c = left _ _ c.from_residual.ensures.1 ∙ stopped _ _ _ c.in_err-check_leg.ensures

pub returns-in_err-check_leg-2 : goal.returns-in_err-check_leg-2
unfolding arcs_crossing
returns-in_err-check_leg-2 c =
    left _ _ c.from_residual-in_err-check_leg-2.ensures.1 ∙ stopped _ _ _ c.in_err-check_leg-2.ensures ∙ went_on _ _ c.in_ok-check_leg.ensures

pub returns : goal.returns
unfolding arcs_crossing
returns c =
    ap (λ (p : Pair). answered (judged p)) c.pair_of.ensures ∙ went_on _ _ c.in_ok-check_leg-2.ensures ∙ went_on _ _ c.in_ok-check_leg.ensures
