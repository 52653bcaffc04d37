-- `cut_at` refuses where all pieces together would be over the limit, and else writes two pieces in the place of one. Assumes nothing.
use native.Mathlib.Omega.{arith}
use Rattle.arcstring.specs.Points.{numbered, points}
use Rattle.arcstring_piece.proofs.inner.pieces.CutLists.{place_within, cut_few}
use Rattle.arcstring_piece.proofs.inner.pieces.CutAnswers.{cut_over, counts_before, cut_within, still_stands}
use Rattle.arcstring_piece.proofs.inner.pieces.Pieces.cut_at.Goals as goal

pub overflow_add-at : goal.overflow_add-at
overflow_add-at c =
    omega (arith, place_within c.args.self.now c.args.k c.requires.2 c.args.at _ c.requires.3 c.total-total.ensures, c.build_halves.ensures.written)

pub overflow_add-at-2 : goal.overflow_add-at-2
overflow_add-at-2 c =
    omega (arith, place_within c.args.self.now c.args.k c.requires.2 c.args.at _ c.requires.3 c.total-total.ensures)

pub overflow_sub-total : goal.overflow_sub-total
overflow_sub-total c =
    (place_within c.args.self.now c.args.k c.requires.2 c.args.at _ c.requires.3 c.total-total.ensures).0

pub overflow_add-at-3 : goal.overflow_add-at-3
overflow_add-at-3 c =
    omega (arith, place_within c.args.self.now c.args.k c.requires.2 c.args.at _ c.requires.3 c.total-total.ensures, c.build_halves.ensures.written)

pub returns-then-at-size-gt-MOST_POINTS-clause-cut : goal.returns-then-at-size-gt-MOST_POINTS-clause-cut
returns-then-at-size-gt-MOST_POINTS-clause-cut c =
    cut_over c.args.self.now c.args.x (numbered (points c.args.copy.v.now) c.args.copy.buoys.now) c.args.i c.args.k c.requires.2 c.args.at
    c.total-total.result c.requires.3 c.total-total.ensures _ _ _ _ c.build_halves.ensures.first c.build_halves.ensures.second
    c.if-at-size-gt-MOST_POINTS.true

pub replace_run-requires : goal.replace_run-requires
replace_run-requires c =
    let within = place_within c.args.self.now c.args.k c.requires.2 c.args.at _ c.requires.3 c.total-total.ensures in
    let there = c.args.self.now.stands in
    let fits = c.if-at-size-gt-MOST_POINTS.false in
    (within.0, omega (arith, within, there), omega (arith, there, fits), omega (arith, fits, c.build_halves.auto))

pub replace_items-requires : goal.replace_items-requires
replace_items-requires c =
    let within = place_within c.args.self.now c.args.k c.requires.2 c.args.at _ c.requires.3 c.total-total.ensures in
    let there = c.args.self.now.stands in
    let fits = c.if-at-size-gt-MOST_POINTS.false in
    (within.0, omega (arith, within, there), omega (arith, there, fits), omega (arith, fits, c.build_halves.auto))

pub replace_item-requires : goal.replace_item-requires
replace_item-requires c =
    let few = cut_few c.args.self.now c.args.k c.requires.2 c.args.at _ c.requires.3 c.total-total.ensures _ _ c.if-at-size-gt-MOST_POINTS.false
    c.build_halves.ensures.first.2 c.build_halves.ensures.second.2 in
    (c.requires.2, omega (arith, few, c.args.self.now.stands.counts-room))

pub replace_item-requires-2 : goal.replace_item-requires-2
replace_item-requires-2 c =
    let few = cut_few c.args.self.now c.args.k c.requires.2 c.args.at _ c.requires.3 c.total-total.ensures _ _ c.if-at-size-gt-MOST_POINTS.false
    c.build_halves.ensures.first.2 c.build_halves.ensures.second.2 in
    (c.requires.2, omega (arith, few, c.args.self.now.stands.flags-room))

pub invariant_of-self : goal.invariant_of-self
invariant_of-self c =
    record {
      stands =
          still_stands c.args.self.now c.args.x (numbered (points c.args.copy.v.now) c.args.copy.buoys.now) c.args.i c.args.k c.requires.2 c.args.at
          c.total-total.result c.requires.3 c.total-total.ensures _ _ _ _ c.build_halves.ensures.first c.build_halves.ensures.second
          c.replace_item.new.list c.if-at-size-gt-MOST_POINTS.false c.replace_item.ensures
          c.build_halves.new.out c.replace_run.new.v c.build_halves.new.out_buoys c.replace_items.new.list c.replace_item-2.new.list
          c.replace_run.auto.v c.replace_items.auto.list c.replace_item.auto.list c.replace_item-2.auto.list;
    }

pub returns-clause-cut : goal.returns-clause-cut
returns-clause-cut c =
    cut_within c.args.self.now c.args.x (numbered (points c.args.copy.v.now) c.args.copy.buoys.now) c.args.i c.args.k c.requires.2 c.args.at
    c.total-total.result c.requires.3 c.total-total.ensures _ _ _ _ c.build_halves.ensures.first c.build_halves.ensures.second
    c.replace_item.new.list c.if-at-size-gt-MOST_POINTS.false c.replace_item.ensures
    c.build_halves.new.out _ c.build_halves.new.out_buoys _ _ c.build_halves.auto.out c.build_halves.auto.out_buoys
    c.build_halves.ensures.written.1 c.build_halves.ensures.written.0 c.replace_run.ensures c.replace_items.ensures c.replace_item-2.ensures

pub returns-clause-before : goal.returns-clause-before
returns-clause-before c =
    counts_before c.args.self.now c.args.x (numbered (points c.args.copy.v.now) c.args.copy.buoys.now) c.args.i c.args.k c.requires.2 c.args.at
    c.total-total.result c.requires.3 c.total-total.ensures _ _ _ _ c.build_halves.ensures.first c.build_halves.ensures.second
    _ c.if-at-size-gt-MOST_POINTS.false c.replace_item.ensures
