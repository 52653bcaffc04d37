-- The pairs of two accepted strings are counted, and what they keep is written. Assumes nothing.
use mathlib.Core.Path.{ap, ◌∙◌}
use Rattle.ieee754.proofs.Tests.{never}
use Rattle.arcstring_tally.specs.Tally.{no_tally, tally_on}
use Rattle.arcstring_visit.specs.Visit.{visits_from}
use Rattle.arcstring_tally.proofs.Marks.{room_at_start, room_of, written_of}
use Rattle.arcstring_listing.proofs.Visits.{two_visits}
use Rattle.arcstring_listing.proofs.listing.visit_two.Goals as goal

pub list-requires : goal.list-requires
unfolding visits_from
list-requires c =
    let v = two_visits _ _ _ _ _ _ _ c.legs.ensures c.legs-2.ensures in
    record {
      same = never;
      room = room_at_start _ c.args.points.now c.args.marks.now
          (room_of _ _ v c.args.points.now c.args.marks.now (c.requires.points_in_bounds, c.requires.marks_in_bounds));
    }

pub returns : goal.returns
unfolding visits_from
returns c =
    let v = two_visits _ _ _ _ _ _ _ c.legs.ensures c.legs-2.ensures in
    let w = written_of _ _ v _ _ _ _ c.list.ensures.stored in
    record { value = c.list.ensures.value ∙ ap (tally_on no_tally) v; points_after = w.0; marks_after = w.1 }
