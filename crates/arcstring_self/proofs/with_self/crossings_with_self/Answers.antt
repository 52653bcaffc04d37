-- A refusal of the string, of the margin, then for want of room, else the listing of its pairs with itself, its points normalised: by one walk where the
-- buffers hold a point of every pair, else counted first. Assumes nothing.
use mathlib.Core.Path.{ap, ◌∙◌}
use mathlib.Core.List.{List}
use lib.ListN.{length}
use Rattle.arcstring.specs.Splice.{splice}
use Rattle.arcstring_check.specs.Check.{stored_check, margin_check}
use Rattle.arcstring_pair.specs.declared.pair.Pair.{Pair}
use Rattle.arcstring_listing.specs.Listing.{listing_of, in_room}
use Rattle.arcstring_listing.proofs.Turns.{stopped_last, went_on_last}
use Rattle.arcstring_listing.proofs.Listings.{left_leaves, fitting_leaves, no_room_leaves, listing_leaves, room_for_kept}
use Rattle.arcstring_self.specs.SelfListing.{self_crossings, normalized_listing}
use Rattle.arcstring_self.proofs.NormalizedListings.{lists_normalized, normalized-points, normalized_bytes}
use Rattle.arcstring_self.proofs.SelfVisits.{self_pairs_as}
use Rattle.arcstring_tally.proofs.Tallies.{tally_kept}
use Rattle.arcstring_self.proofs.with_self.crossings_with_self.Goals as goal

pub returns-in_err-string : goal.returns-in_err-string
unfolding self_crossings
returns-in_err-string c =
    let whole = left_leaves _ _ _ _ _ c.from_residual.ensures.1
    (stopped_last _ (stored_check c.args.v.now) (margin_check c.args.margin) _ c.in_err-string.ensures) in
    record { result_value = whole.0; points_after = whole.1.0; marks_after = whole.1.1 }

pub visit_self-t-requires : goal.visit_self-t-requires
visit_self-t-requires c = rw c.in_ok-string.ensures.1 (c.holds_self.ensures c.if-holds_self.true _)

pub returns-then-holds_self : goal.returns-then-holds_self
unfolding self_crossings
returns-then-holds_self c =
    let s = c.in_ok-string.ensures in
    let same = ap (λ (ps : List Pair). in_room (normalized_listing (listing_of ps)) (length c.args.points.now) (length c.args.marks.now))
    (self_pairs_as c.args.margin _ _ _ _ s.0 s.1) in
    let whole = fitting_leaves _ _ (lists_normalized _) _ _ _ _ _ _ _ c.visit_self-t.ensures.value
    (rw s.1 (c.holds_self.ensures c.if-holds_self.true _))
    (same ∙ went_on_last (stored_check c.args.v.now) (margin_check c.args.margin) _ s.2) c.from.ensures
    (c.visit_self-t.ensures.points_after ∙ ap (splice _ 0) (normalized-points _)) (c.visit_self-t.ensures.marks_after ∙ ap (splice _ 0) (normalized_bytes _)) in
    record { result_value = whole.0; points_after = whole.1.0; marks_after = whole.1.1 }

pub returns-in_err-check_buffers : goal.returns-in_err-check_buffers
unfolding self_crossings
returns-in_err-check_buffers c =
    let s = c.in_ok-string.ensures in
    let same = ap (λ (ps : List Pair). in_room (normalized_listing (listing_of ps)) (length c.args.points.now) (length c.args.marks.now))
    (self_pairs_as c.args.margin _ _ _ _ s.0 s.1) in
    let whole = no_room_leaves _ _ (lists_normalized _) _ c.tally_self-t.ensures.0 _ _ _ _ _ c.from_residual-in_err-check_buffers.ensures.1
    c.in_err-check_buffers.ensures (same ∙ went_on_last (stored_check c.args.v.now) (margin_check c.args.margin) _ s.2) in
    record { result_value = whole.0; points_after = whole.1.0; marks_after = whole.1.1 }

pub write_self-requires : goal.write_self-requires
write_self-requires c =
    record {
      kept_value = tally_kept _ _ c.tally_self-t.ensures.0;
      kept_in_bounds = room_for_kept _ _ (lists_normalized _) _ c.tally_self-t.ensures.0 c.args.points.now c.args.marks.now c.in_ok-check_buffers.ensures;
    }

pub returns : goal.returns
unfolding self_crossings
returns c =
    let s = c.in_ok-string.ensures in
    let same = ap (λ (ps : List Pair). in_room (normalized_listing (listing_of ps)) (length c.args.points.now) (length c.args.marks.now))
    (self_pairs_as c.args.margin _ _ _ _ s.0 s.1) in
    let whole = listing_leaves _ _ (lists_normalized _) _ c.tally_self-t.ensures.0 _ _ _ _ _ _ c.in_ok-check_buffers.ensures
    (same ∙ went_on_last (stored_check c.args.v.now) (margin_check c.args.margin) _ s.2) c.from-2.ensures
    (c.write_self.ensures.points_after ∙ ap (splice _ 0) (normalized-points _)) (c.write_self.ensures.marks_after ∙ ap (splice _ 0) (normalized_bytes _)) in
    record { result_value = whole.0; points_after = whole.1.0; marks_after = whole.1.1 }
