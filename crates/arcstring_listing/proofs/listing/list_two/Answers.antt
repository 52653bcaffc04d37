-- The listing of the pairs of two accepted strings: by one walk where the buffers hold a point of every pair, else counted first and refused for want of
-- room. Assumes nothing.
use mathlib.Core.Path.{refl}
use Rattle.arcstring_listing.specs.Listing.{listing_of}
use Rattle.arcstring_listing.proofs.Listings.{lists_plain, fitting_leaves, no_room_leaves, listing_leaves, room_for_kept}
use Rattle.arcstring_tally.proofs.Tallies.{tally_kept}
use Rattle.arcstring_listing.proofs.listing.list_two.Goals as goal

pub visit_two-t-requires : goal.visit_two-t-requires
visit_two-t-requires c =
    let room = c.holds_all.ensures c.if-holds_all.true _ in
    record { points_in_bounds = room.0; marks_in_bounds = room.1 }

pub returns-then-holds_all : goal.returns-then-holds_all
unfolding listing_of
returns-then-holds_all c =
    let whole = fitting_leaves _ _ (lists_plain _) _ _ _ _ _ _ _ c.visit_two-t.ensures.value (c.holds_all.ensures c.if-holds_all.true _) refl c.from.ensures
    c.visit_two-t.ensures.points_after c.visit_two-t.ensures.marks_after in
    record { result_value = whole.0; points_after = whole.1.0; marks_after = whole.1.1 }

pub returns-in_err-check_buffers : goal.returns-in_err-check_buffers
returns-in_err-check_buffers c =
    let whole = no_room_leaves _ _ (lists_plain _) _ c.tally_two-t.ensures.0 _ _ _ _ _ c.from_residual.ensures.1 c.in_err-check_buffers.ensures refl in
    record { result_value = whole.0; points_after = whole.1.0; marks_after = whole.1.1 }

pub write_two-requires : goal.write_two-requires
write_two-requires c =
    record {
      kept_value = tally_kept _ _ c.tally_two-t.ensures.0;
      kept_in_bounds = room_for_kept _ _ (lists_plain _) _ c.tally_two-t.ensures.0 c.args.points.now c.args.marks.now c.in_ok-check_buffers.ensures;
    }

pub returns : goal.returns
unfolding listing_of
returns c =
    let whole = listing_leaves _ _ (lists_plain _) _ c.tally_two-t.ensures.0 _ _ _ _ _ _ c.in_ok-check_buffers.ensures refl c.from-2.ensures
    c.write_two.ensures.points_after c.write_two.ensures.marks_after in
    record { result_value = whole.0; points_after = whole.1.0; marks_after = whole.1.1 }
