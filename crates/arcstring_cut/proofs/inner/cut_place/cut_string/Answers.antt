-- `cut_string` walks over the places that there are before the point; each starts where the one before it ends. Assumes nothing.
use mathlib.Core.Path.{◌∙◌}
use native.Mathlib.Omega.{arith}
use Rattle.std.proofs.lemmas.Result.{err_from_is_err_and}
use Rattle.arcstring.specs.Points.{place_of}
use Rattle.arcstring_build.specs.Build.{built_numbered}
use Rattle.arcstring_piece.specs.Cut.{cut_place}
use Rattle.arcstring_cut.proofs.inner.cut_place.CutWalks.{walk_end, walk_stops}
use Rattle.arcstring_cut.proofs.inner.cut_place.CutPlaces.{place_step, string_walk}
use Rattle.arcstring_cut.proofs.inner.cut_place.cut_string.Goals as goal

pub returns-in_err-cut_place : goal.returns-in_err-cut_place
returns-in_err-cut_place c =
    let p = err_from_is_err_and c.from_residual.result c.from_residual.ensures.1 in
    rw (p.1, p.2)
    (walk_stops (cut_place place_of built_numbered c.args.x) _ c.loop-k.pieces _ _ c.loop-k.k c.loop-k.invariant.walks c.cut_place.new.pieces c.loop-k-test.true
    _ c.in_err-cut_place.ensures.cut
    ∙ string_walk c.args.x c.args.pieces.now)

pub overflow_add-at : goal.overflow_add-at
overflow_add-at c =
    let step = place_step c.args.x c.loop-k.pieces c.cut_place.new.pieces _ _ c.loop-k.k c.loop-k.at c.loop-k.invariant.walks c.loop-k-test.true
    c.in_ok-cut_place.ensures.cut c.loop-k.invariant.starts c.in_ok-cut_place.ensures.before in
    omega (arith, step.0)

pub loop-k-preserved : goal.loop-k-preserved
loop-k-preserved c =
    let step = place_step c.args.x c.loop-k.pieces c.cut_place.new.pieces _ _ c.loop-k.k c.loop-k.at c.loop-k.invariant.walks c.loop-k-test.true
    c.in_ok-cut_place.ensures.cut c.loop-k.invariant.starts c.in_ok-cut_place.ensures.before in
    record { starts = step.1; walks = step.2 }

pub returns : goal.returns
returns c =
    walk_end (cut_place place_of built_numbered c.args.x) _ c.loop-k.pieces _ _ c.loop-k.k c.loop-k.invariant.walks c.loop-k-test.false
    ∙ string_walk c.args.x c.args.pieces.now
