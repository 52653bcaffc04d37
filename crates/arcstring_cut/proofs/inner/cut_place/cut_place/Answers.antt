-- `cut_place` walks over the legs of a copy of the string at place k. Assumes nothing.
use native.Mathlib.Omega.{arith}
use Rattle.arcstring_piece.proofs.inner.pieces.CutLists.{place_some}
use Rattle.arcstring_cut.proofs.inner.cut_place.CutPlaces.{place_within, place_walk}
use Rattle.arcstring_cut.proofs.inner.cut_place.cut_place.Goals as goal

pub copy_run-requires : goal.copy_run-requires
copy_run-requires c =
    let within = place_within c.args.pieces.now c.args.k c.requires.0 c.args.at c.requires.1 in
    (omega (arith, within, c.args.pieces.now.stands.floats), omega (arith, within, c.told-copy))

pub copy_items-requires : goal.copy_items-requires
copy_items-requires c =
    let within = place_within c.args.pieces.now c.args.k c.requires.0 c.args.at c.requires.1 in
    (omega (arith, within, c.args.pieces.now.stands.buoys_room), omega (arith, within, c.told-copy_buoys))

pub overflow_mul-string : goal.overflow_mul-string
overflow_mul-string c = omega (arith, place_within c.args.pieces.now c.args.k c.requires.0 c.args.at c.requires.1)

pub shared_ref_as_front-string : goal.shared_ref_as_front-string
shared_ref_as_front-string c = omega (arith, place_within c.args.pieces.now c.args.k c.requires.0 c.args.at c.requires.1)

pub leg_count-legs-requires : goal.leg_count-legs-requires
leg_count-legs-requires c = place_some c.args.pieces.now c.args.k c.requires.0

pub returns-clause-cut : goal.returns-clause-cut
returns-clause-cut c =
    place_walk c.args.pieces.now c.args.k c.requires.0 c.args.at c.requires.1 c.args.x c.args.copy.now c.copy_run.new.out c.args.copy_buoys.now
    c.copy_items.new.out c.leg_count-legs.result _ c.copy_run.ensures c.copy_items.ensures c.leg_count-legs.ensures.0 c.cut_legs_of.ensures.cut
