-- A refusal of the first string, of the second and of the margin, else the counts of all pairs. Assumes nothing.
use mathlib.Core.Path.{ap, ◌∙◌}
use Rattle.arcstring_check.specs.Answer.{answered}
use Rattle.arcstring_check.specs.Check.{stored_check, margin_check}
use Rattle.arcstring_check.proofs.Answers.{stopped, went_on}
use Rattle.arcstring_tally.specs.Pairs.{counts_of}
use Rattle.arcstring_tally.proofs.Tallies.{tally_counts_lem}
use Rattle.arcstring_listing.specs.Listing.{counted}
use Rattle.arcstring_listing.proofs.Turns.{left_with, stopped_last, went_on_last}
use Rattle.arcstring_listing.proofs.Visits.{visited_as}
use Rattle.arcstring_listing.proofs.listing.count.Goals as goal

pub returns-in_err-left : goal.returns-in_err-left
unfolding counted
returns-in_err-left c = left_with _ _ c.from_residual.ensures.1 ∙ stopped _ _ _ c.in_err-left.ensures

pub returns-in_err-right : goal.returns-in_err-right
unfolding counted
returns-in_err-right c =
    left_with _ _ c.from_residual-in_err-right.ensures.1
    ∙ stopped_last _ (stored_check c.args.b.now) (margin_check c.args.margin) _ c.in_err-right.ensures ∙ went_on _ _ c.in_ok-left.ensures.2

pub returns : goal.returns
unfolding counted
returns c =
    let a = c.in_ok-left.ensures in
    let b = c.in_ok-right.ensures in
    ap answered (c.from.ensures ∙ tally_counts_lem _ _ c.tally_two.ensures.0 ∙ ap counts_of (visited_as _ _ _ _ _ _ _ _ _ a.0 a.1 b.0 b.1))
    ∙ went_on_last (stored_check c.args.b.now) (margin_check c.args.margin) _ b.2 ∙ went_on _ _ a.2
