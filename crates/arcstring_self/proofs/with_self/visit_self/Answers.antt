-- The pairs of an accepted string with itself are counted, and what they keep is written and then normalised in place. Assumes nothing.
use mathlib.Core.Path.{◌≡◌, refl, ap, ◌∙◌}
use native.Mathlib.Omega.{arith}
use Rattle.arcstring_self.specs.SelfListing.{self_pairs}
use Rattle.arcstring_tally.specs.Tally.{no_tally, tally_on}
use Rattle.arcstring_visit.specs.Visit.{visits_from}
use Rattle.arcstring_self.proofs.NormalizedListings.{normalized-in_place}
use Rattle.arcstring_tally.proofs.Marks.{room_at_start, room_of, written_of}
use Rattle.arcstring_tally.proofs.Tallies.{tally_kept}
use Rattle.arcstring_self.proofs.SelfVisits.{self_visits}
use Rattle.arcstring_self.proofs.with_self.visit_self.Goals as goal

pub list-t-requires : goal.list-t-requires
unfolding visits_from
list-t-requires c =
    let v = self_visits _ _ _ _ c.legs-legs.ensures in
    record {
      same = λ e. (refl, refl);
      room = room_at_start _ c.args.points.now c.args.marks.now (room_of _ _ v c.args.points.now c.args.marks.now c.requires);
    }

pub normalize_points-requires : goal.normalize_points-requires
unfolding visits_from
normalize_points-requires c =
    let count : c.list-t.result ≡ tally_on no_tally (self_pairs c.args.margin c.args.s.v.now c.args.s.closed) =
    c.list-t.ensures.value ∙ ap (tally_on no_tally) (self_visits _ _ _ _ c.legs-legs.ensures) in
    omega (arith, tally_kept _ _ count, c.requires)

pub returns : goal.returns
unfolding visits_from
returns c =
    let v = self_visits _ _ _ _ c.legs-legs.ensures in
    let count : c.list-t.result ≡ tally_on no_tally (self_pairs c.args.margin c.args.s.v.now c.args.s.closed) =
    c.list-t.ensures.value ∙ ap (tally_on no_tally) v in
    let w = written_of _ _ v _ _ _ _ c.list-t.ensures.stored in
    record {
      value = count;
      points_after = normalized-in_place (self_pairs c.args.margin c.args.s.v.now c.args.s.closed) _ _ _ _ (tally_kept _ _ count) w.0
          c.normalize_points.ensures;
      marks_after = w.1;
    }
