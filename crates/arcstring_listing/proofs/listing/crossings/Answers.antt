-- A refusal of the first string, of the second and of the margin, else the listing of all pairs. Assumes nothing.
use mathlib.Core.Path.{ap, ◌∙◌}
use mathlib.Core.List.{List}
use lib.ListN.{length}
use Rattle.arcstring_check.specs.Check.{stored_check, margin_check}
use Rattle.arcstring_check.proofs.Answers.{stopped, went_on}
use Rattle.arcstring_pair.specs.declared.pair.Pair.{Pair}
use Rattle.arcstring_listing.specs.Listing.{listing_of, in_room, crossings}
use Rattle.arcstring_listing.proofs.Turns.{stopped_last, went_on_last}
use Rattle.arcstring_listing.proofs.Listings.{left_leaves, leaves_as}
use Rattle.arcstring_listing.proofs.Visits.{visited_as}
use Rattle.arcstring_listing.proofs.listing.crossings.Goals as goal

pub returns-in_err-left : goal.returns-in_err-left
unfolding crossings
returns-in_err-left c =
    let whole = left_leaves _ _ _ _ _ c.from_residual.ensures.1 (stopped _ _ _ c.in_err-left.ensures) in
    record { result_value = whole.0; points_after = whole.1.0; marks_after = whole.1.1 }

pub returns-in_err-right : goal.returns-in_err-right
unfolding crossings
returns-in_err-right c =
    let whole = left_leaves _ _ _ _ _ c.from_residual-in_err-right.ensures.1
    (stopped_last _ (stored_check c.args.b.now) (margin_check c.args.margin) _ c.in_err-right.ensures ∙ went_on _ _ c.in_ok-left.ensures.2) in
    record { result_value = whole.0; points_after = whole.1.0; marks_after = whole.1.1 }

pub returns : goal.returns
unfolding crossings
returns c =
    let a = c.in_ok-left.ensures in
    let b = c.in_ok-right.ensures in
    let same = ap (λ (ps : List Pair). in_room (listing_of ps) (length c.args.points.now) (length c.args.marks.now))
    (visited_as c.args.margin _ _ _ _ _ _ _ _ a.0 a.1 b.0 b.1) in
    let whole = leaves_as _ _ _ _ _ _ _ (same ∙ went_on_last (stored_check c.args.b.now) (margin_check c.args.margin) _ b.2 ∙ went_on _ _ a.2)
    (c.list_two.ensures.result_value, (c.list_two.ensures.points_after, c.list_two.ensures.marks_after)) in
    record { result_value = whole.0; points_after = whole.1.0; marks_after = whole.1.1 }
