-- `cut_legs_of` walks over the legs of the copy: a leg that the point is not along changes nothing, and any other is a cut. Assumes nothing.
use mathlib.Core.Path.{◌∙◌}
use native.Mathlib.Omega.{arith}
use Rattle.std.proofs.lemmas.Result.{err_from_is_err_and}
use Rattle.arcstring.specs.Points.{numbered, points}
use Rattle.arcstring_cut.proofs.inner.cut_place.CutWalks.{walk_end, walk_same, walk_stops, walk_step, leg_longer, leg_step, leg_off, leg_cut}
use Rattle.arcstring_cut.proofs.inner.cut_place.cut_legs_of.Goals as goal
use Rattle.arcstring_cut.proofs.inner.cut_place.cut_legs_of.Goals.{then-along_leg_at+in_ok-cut_at, else-along_leg_at}

pub returns-in_err-cut_at-clause-cut : goal.returns-in_err-cut_at-clause-cut
returns-in_err-cut_at-clause-cut c =
    let p = err_from_is_err_and c.from_residual.result c.from_residual.ensures.1 in
    rw (p.1, p.2)
    (walk_stops (leg_step c.args.x c.args.copy.v.now c.args.copy.buoys.now c.args.k) _ c.loop-i.pieces _ _ c.loop-i.i c.loop-i.invariant.walks c.cut_at.new.self
    c.loop-i-test.true _
    (c.in_err-cut_at.ensures.cut
    ∙ leg_cut c.args.x c.args.copy.v.now c.args.copy.buoys.now c.args.k c.loop-i.i c.args.copy.as_many (omega (arith, c.requires, c.loop-i-test.true))
    _ _ c.vertices.ensures _ c.along_leg_at.ensures _ c.if-along_leg_at.true))

pub loop-i-preserved : goal.loop-i-preserved
loop-i-preserved c =
    elim c.if-along_leg_at.branch [
      | then-along_leg_at+in_ok-cut_at w ↦
          rw w.pieces-is
          (record {
            before = w.in_ok-cut_at.ensures.before ∙ c.loop-i.invariant.before;
            walks =
                walk_step (leg_step c.args.x c.args.copy.v.now c.args.copy.buoys.now c.args.k) _ c.loop-i.pieces _ _ c.loop-i.i c.loop-i.invariant.walks
                w.cut_at.new.self c.loop-i-test.true (leg_longer c.args.x (numbered (points c.args.copy.v.now) c.args.copy.buoys.now) c.args.k c.loop-i.i)
                (w.in_ok-cut_at.ensures.cut
                ∙ leg_cut c.args.x c.args.copy.v.now c.args.copy.buoys.now c.args.k c.loop-i.i c.args.copy.as_many
                (omega (arith, c.requires, c.loop-i-test.true))
                _ _ c.vertices.ensures _ c.along_leg_at.ensures _ w.if-along_leg_at.true);
          })
      | else-along_leg_at w ↦
          rw w.pieces-is
          (record {
            before = c.loop-i.invariant.before;
            walks =
                walk_same (leg_step c.args.x c.args.copy.v.now c.args.copy.buoys.now c.args.k) _ c.loop-i.pieces _ _ c.loop-i.i
                c.loop-i.invariant.walks c.loop-i-test.true
                (leg_off c.args.x c.args.copy.v.now c.args.copy.buoys.now c.args.k c.loop-i.i c.args.copy.as_many
                (omega (arith, c.requires, c.loop-i-test.true))
                _ _ c.vertices.ensures _ c.along_leg_at.ensures _ w.if-along_leg_at.false);
          })
    ]

pub returns-clause-cut : goal.returns-clause-cut
returns-clause-cut c = walk_end (leg_step c.args.x c.args.copy.v.now c.args.copy.buoys.now c.args.k) _ c.loop-i.pieces _ _ c.loop-i.i
    c.loop-i.invariant.walks c.loop-i-test.false
