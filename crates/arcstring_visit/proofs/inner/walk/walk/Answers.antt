-- The legs of one string against those of another, or of the same, counted, and what they keep kept. Assumes nothing.
use mathlib.Core.Path.{◌≡◌, ◌∙◌}
use mathlib.Core.List.{◌++◌}
use Prim.Native.Nat.{ℕ, ◌+◌}
use native.Mathlib.Nat.{le_trans}
use borrow.Author.Rules.{rules}
use Rattle.arcstring.specs.Leg.{leg_of}
use Rattle.arcstring_visit.specs.Visit.{row_pairs, visits_from}
use Rattle.arcstring_visit.proofs.Bounds.{sum_with_row}
use Rattle.arcstring_visit.proofs.Rows.{visits_next, visits_none, visits_few}
use Rattle.arcstring_tally.proofs.Tallies.{counted_on, counted_all}
use Rattle.arcstring_visit.proofs.Walks.{walk_room, walk_on, walk_done}
use Rattle.arcstring_visit.proofs.inner.walk.walk.Goals as goal

pub walk_row-t-requires : goal.walk_row-t-requires
walk_row-t-requires g c =
    let a = c.args.a in
    let b = c.args.b.legs in
    let pairs = λ (i : ℕ). visits_from c.args.margin c.args.within a.string.v.now i a.count b.string.v.now b.count in
    let next : pairs c.loop-i.i ≡ row_pairs c.args.margin (leg_of c.of-leg.result.arc) b.string.v.now c.row_start-from.result b.count ++ pairs (c.loop-i.i + 1)
    = visits_next _ _ _ _ a.string.whole _ a.within.0 _ _ _ _ _ c.requires.same c.loop-i-test.true (c.of-leg.ensures ∙ c.at.ensures) c.row_start-from.ensures in
    let few = visits_few c.args.margin c.args.within a.string.v.now a.string.n a.string.whole a.count a.within.0 b.string.v.now b.count
    (le_trans a.within.0 a.within.1) (le_trans b.within.0 b.within.1) in (
      search rules,
      (
        search rules,
        (
          sum_with_row c.loop-i.t _ _ _ c.loop-i.invariant.counted few b.within.1,
          walk_room g.K.Keep.laws _ _ _ _ _ _ _ _ next c.loop-i.invariant.written,
        ),
      ),
    )

pub loop-i-preserved : goal.loop-i-preserved
loop-i-preserved g c =
    let a = c.args.a in
    let b = c.args.b.legs in
    let pairs = λ (i : ℕ). visits_from c.args.margin c.args.within a.string.v.now i a.count b.string.v.now b.count in
    let next : pairs c.loop-i.i ≡ row_pairs c.args.margin (leg_of c.of-leg.result.arc) b.string.v.now c.row_start-from.result b.count ++ pairs (c.loop-i.i + 1)
    = visits_next _ _ _ _ a.string.whole _ a.within.0 _ _ _ _ _ c.requires.same c.loop-i-test.true (c.of-leg.ensures ∙ c.at.ensures) c.row_start-from.ensures in
    record {
      counted = counted_on _ _ _ _ _ _ next c.walk_row-t.ensures.value c.loop-i.invariant.counted;
      written = walk_on g.K.Keep.laws _ _ _ _ _ _ _ _ _ _ next c.loop-i.invariant.written c.walk_row-t.ensures.value c.walk_row-t.ensures.written;
    }

pub returns : goal.returns
returns g c =
    let a = c.args.a in
    let none = visits_none c.args.margin c.args.within a.string.v.now a.string.n a.string.whole a.count a.within.0 c.args.b.legs.string.v.now
    c.args.b.legs.count c.loop-i.i c.loop-i-test.false in
    record {
      value = counted_all _ _ _ none c.loop-i.invariant.counted;
      written = walk_done g.K.Keep.laws _ _ _ _ _ _ none c.loop-i.invariant.written;
    }
