-- A refusal of the points, then of the string, else whether the number of kept points is even. Assumes nothing.
use mathlib.Core.Path.{ap, sym, ◌∙◌}
use Prim.Native.Nat.{ℕ, ◌%◌}
use lib.Dec.{eqb}
use Rattle.arcstring_check.specs.Answer.{answered}
use Rattle.arcstring_check.proofs.Answers.{stopped, went_on}
use Rattle.arcstring_tally.proofs.Tallies.{tally_kept}
use Rattle.arcstring_listing.specs.Listing.{same_side}
use Rattle.arcstring_listing.proofs.Turns.{left_with}
use Rattle.arcstring_listing.proofs.listing.points_are_on_same_side.Goals as goal

pub tally_leg-t-requires : goal.tally_leg-t-requires
tally_leg-t-requires c = sym c.in_ok-check_leg.ensures

pub returns-in_err-check_leg : goal.returns-in_err-check_leg
unfolding same_side
returns-in_err-check_leg c = left_with _ _ c.from_residual.ensures.1 ∙ stopped _ _ _ c.in_err-check_leg.ensures

pub returns-in_err-string : goal.returns-in_err-string
unfolding same_side
returns-in_err-string c =
    left_with _ _ c.from_residual-in_err-string.ensures.1 ∙ stopped _ _ _ c.in_err-string.ensures ∙ went_on _ _ c.in_ok-check_leg.ensures

pub returns : goal.returns
unfolding same_side
returns c =
    let s = c.in_ok-string.ensures in
    ap (λ (k : ℕ). answered (eqb (k % 2) 0)) (tally_kept _ _ c.tally_leg-t.ensures) ∙ rw (s.0, s.1) (went_on _ _ s.2 ∙ went_on _ _ c.in_ok-check_leg.ensures)
