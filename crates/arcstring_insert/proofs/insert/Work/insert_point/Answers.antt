-- `insert_point` walks over the legs: the walk that is left, from the vertices that stand in the lists, gives the whole answer. Assumes nothing.
use native.Mathlib.Omega.{arith}
use Rattle.arcstring_insert.proofs.InsertWalks.{walk_begin, walk_past, walk_full, walk_on, walk_end}
use Rattle.arcstring_insert.proofs.insert.Work.insert_point.Goals as goal

pub loop-init : goal.loop-init
loop-init c = (
  omega arith,
  walk_begin c.args.x c.args.self.now.v c.args.self.now.buoys _ _ c.args.closed (omega arith) (omega arith) c.leg_count-legs.ensures.0,
)

pub loop-preserved-then-not-along_leg_at : goal.loop-preserved-then-not-along_leg_at
loop-preserved-then-not-along_leg_at c = (
  omega arith,
  walk_past c.args.x _ _ _ c.loop.k _ c.loop.counter _ c.loop.invariant.1 _ c.loop-test.true (omega arith) (omega arith) (omega arith)
      c.along_leg_at.ensures c.if-not-along_leg_at.true,
)

pub returns-then-self-eq-MOST_POINTS : goal.returns-then-self-eq-MOST_POINTS
returns-then-self-eq-MOST_POINTS c =
    walk_full c.args.x _ _ _ c.loop.k _ c.loop.counter _ c.loop.invariant.1 _ c.loop-test.true (omega arith) (omega arith) (omega arith)
    c.along_leg_at.ensures c.if-not-along_leg_at.false c.if-self-eq-MOST_POINTS.true

pub loop-preserved : goal.loop-preserved
loop-preserved c = (
  omega arith,
  walk_on c.args.x _ _ _ c.loop.k _ c.loop.counter _ c.loop.invariant.1 _ c.loop-test.true (omega arith) (omega arith) (omega arith)
      c.along_leg_at.ensures _ _ c.if-not-along_leg_at.false (omega arith) c.insert_numbered.ensures,
)

pub returns : goal.returns
returns c = walk_end c.args.x _ _ _ c.loop.k _ c.loop.counter _ c.loop.invariant.1 c.loop-test.false
