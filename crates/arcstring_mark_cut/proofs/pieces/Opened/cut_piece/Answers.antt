-- `cut_piece` leaves the pieces where the mark equals an end of piece k, refuses where two points more are too many, and else puts the mark in twice and makes
-- two counts of one. Assumes nothing.
use mathlib.Core.Path.{refl, ◌∙◌}
use Prim.Native.Nat.{◌+◌, ◌≤◌}
use native.Mathlib.Omega.{arith}
use lib.ListN.{take}
use Rattle.arcstring_check.specs.Check.{most_points}
use Rattle.arcstring_piece.specs.Pieces.{sum}
use Rattle.arcstring_mark_cut.proofs.MarkCuts.{both_put, all_points, piece_room, cuts_nothing, one_too_many, one_more_lem, one_more_stands}
use Rattle.arcstring_mark_cut.proofs.pieces.Opened.cut_piece.Goals as goal

pub at_piece_end-requires : goal.at_piece_end-requires
at_piece_end-requires c =
    let room = piece_room c.args.self.now c.args.k c.requires.0 c.args.at c.requires.1 in
    (room.3, omega (arith, room))

pub returns-then-at_piece_end : goal.returns-then-at_piece_end
returns-then-at_piece_end c =
    cuts_nothing c.args.self.now c.args.k c.requires.0 c.args.i c.args.x _ c.args.at c.requires.1 c.at_piece_end.ensures c.if-at_piece_end.true

pub returns-then-total-gt-MOST_POINTS : goal.returns-then-total-gt-MOST_POINTS
returns-then-total-gt-MOST_POINTS c =
    one_too_many c.args.self.now c.args.k c.requires.0 c.args.i c.args.x _ c.args.at c.requires.1 c.at_piece_end.ensures c.requires.2
    c.if-at_piece_end.false (omega (arith, c.if-total-gt-MOST_POINTS.true, all_points c.args.self.now))

pub overflow_add-place : goal.overflow_add-place
overflow_add-place c = omega (arith, piece_room c.args.self.now c.args.k c.requires.0 c.args.at c.requires.1)

pub overflow_add-place-2 : goal.overflow_add-place-2
overflow_add-place-2 c = omega (arith, piece_room c.args.self.now c.args.k c.requires.0 c.args.at c.requires.1)

pub insert_numbered-requires : goal.insert_numbered-requires
insert_numbered-requires c =
    let room = piece_room c.args.self.now c.args.k c.requires.0 c.args.at c.requires.1 in
    let long = c.args.self.now.stands.buoys_room in
    (omega (arith, room), omega (arith, room), omega (arith, c.if-total-gt-MOST_POINTS.false))

pub insert_numbered-requires-2 : goal.insert_numbered-requires-2
insert_numbered-requires-2 c =
    let room = piece_room c.args.self.now c.args.k c.requires.0 c.args.at c.requires.1 in
    let long = c.insert_numbered.auto.buoys ∙ c.args.self.now.stands.buoys_room in
    (omega (arith, room, c.insert_numbered.auto.work), omega (arith, room), omega (arith, c.if-total-gt-MOST_POINTS.false))

-- ---- the mark put in twice

pub invariant_of-self : goal.invariant_of-self
invariant_of-self c =
    let put = both_put c.args.self.now c.args.x (c.args.at + c.args.i + 1) c.insert_numbered.new.work c.insert_numbered-2.new.work
    c.insert_numbered.new.buoys c.insert_numbered-2.new.buoys c.insert_numbered.ensures c.insert_numbered-2.ensures in
    let fits : sum (take c.args.self.now.count c.args.self.now.counts) + 2 ≤ most_points =
    omega (arith, c.if-total-gt-MOST_POINTS.false, all_points c.args.self.now) in
    record {
      stands = one_more_stands c.args.self.now c.args.k c.requires.0 c.args.i c.args.x _ c.args.at c.requires.1 c.at_piece_end.ensures c.requires.2
          c.if-at_piece_end.false fits c.insert_numbered-2.new.work c.insert_numbered-2.new.buoys c.replace_item.new.list _ refl put
          c.replace_item.ensures (c.insert_numbered-2.auto.work ∙ c.insert_numbered.auto.work)
          (c.insert_numbered-2.auto.buoys ∙ c.insert_numbered.auto.buoys) c.replace_item.auto.list;
    }

pub returns : goal.returns
returns c =
    let put = both_put c.args.self.now c.args.x (c.args.at + c.args.i + 1) c.insert_numbered.new.work c.insert_numbered-2.new.work
    c.insert_numbered.new.buoys c.insert_numbered-2.new.buoys c.insert_numbered.ensures c.insert_numbered-2.ensures in
    let fits : sum (take c.args.self.now.count c.args.self.now.counts) + 2 ≤ most_points =
    omega (arith, c.if-total-gt-MOST_POINTS.false, all_points c.args.self.now) in
    one_more_lem c.args.self.now c.args.k c.requires.0 c.args.i c.args.x _ c.args.at c.requires.1 c.at_piece_end.ensures c.requires.2
    c.if-at_piece_end.false fits c.insert_numbered-2.new.work c.insert_numbered-2.new.buoys c.replace_item.new.list _ refl put c.replace_item.ensures
