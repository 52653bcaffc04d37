-- A refusal of the leg, of the string and of the margin, else the listing of the leg's pairs: those of a string of two vertices. Assumes nothing.
use mathlib.Core.Path.{refl, sym, ap, ◌∙◌}
use mathlib.Core.List.{List}
use lib.ListN.{length}
use Rattle.arcstring_check.specs.Check.{stored_check, margin_check}
use Rattle.arcstring_check.proofs.Answers.{stopped, went_on}
use Rattle.arcstring_pair.specs.declared.pair.Pair.{Pair}
use Rattle.arcstring_listing.specs.Listing.{listing_of, in_room, leg_crossings}
use Rattle.arcstring_listing.proofs.Turns.{stopped_last, went_on_last}
use Rattle.arcstring_listing.proofs.Listings.{left_leaves, leaves_as}
use Rattle.arcstring_listing.proofs.Visits.{accepted_as, visits_as, visited_as}
use Rattle.arcstring_listing.proofs.listing.arc_crossings_with_arcstring.Goals as goal

pub returns-in_err-check_leg : goal.returns-in_err-check_leg
unfolding leg_crossings
returns-in_err-check_leg c =
    let whole = left_leaves _ _ _ _ _ c.from_residual.ensures.1 (stopped _ _ _ c.in_err-check_leg.ensures) in
    record { result_value = whole.0; points_after = whole.1.0; marks_after = whole.1.1 }

pub returns-in_err-right : goal.returns-in_err-right
unfolding leg_crossings
returns-in_err-right c =
    let whole = left_leaves _ _ _ _ _ c.from_residual-in_err-right.ensures.1
    (stopped_last _ (stored_check c.args.v.now) (margin_check c.args.margin) _ c.in_err-right.ensures ∙ went_on _ _ c.in_ok-check_leg.ensures) in
    record { result_value = whole.0; points_after = whole.1.0; marks_after = whole.1.1 }

pub invariant_of-left : goal.invariant_of-left
invariant_of-left c = record { accepted = accepted_as _ _ c.leg_string-leg.ensures (sym c.in_ok-check_leg.ensures) }

pub returns : goal.returns
unfolding leg_crossings
returns c =
    let b = c.in_ok-right.ensures in
    let same = ap (λ (ps : List Pair). in_room (listing_of ps) (length c.args.points.now) (length c.args.marks.now))
    (visited_as c.args.margin _ _ _ _ _ _ _ _ refl refl b.0 b.1 ∙ visits_as _ _ c.leg_string-leg.ensures c.args.margin c.args.v.now c.args.closed) in
    let whole = leaves_as _ _ _ _ _ _ _ (same ∙
    went_on_last (stored_check c.args.v.now) (margin_check c.args.margin) _ b.2 ∙ went_on _ _ c.in_ok-check_leg.ensures)
    (c.list_two.ensures.result_value, (c.list_two.ensures.points_after, c.list_two.ensures.marks_after)) in
    record { result_value = whole.0; points_after = whole.1.0; marks_after = whole.1.1 }
