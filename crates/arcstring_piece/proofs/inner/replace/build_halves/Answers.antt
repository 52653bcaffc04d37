-- `build_halves` builds the first piece at the start of `out`, and the second from where the first ends. Assumes nothing.
use Prim.Native.Nat.{◌+◌}
use native.Mathlib.Omega.{arith}
use Rattle.arcstring.specs.Points.{numbered, points}
use Rattle.arcstring_piece.specs.Cut.{first_points, second_points}
use Rattle.arcstring_piece.proofs.inner.replace.BothHalves.{halves_built}
use Rattle.arcstring_piece.proofs.inner.replace.build_halves.Goals as goal

pub returns : goal.returns
returns c =
    let vs = numbered (points c.args.string.v.now) c.args.string.buoys.now in
    let one = c.build_piece-first.ensures in
    let two = c.build_piece-second.ensures in
    let whole = halves_built c.first_points.new.out c.second_points-count.new.out c.first_points.new.out_buoys c.second_points-count.new.out_buoys
    (c.args.i + 2) c.second_points-count.result (first_points c.args.x vs c.args.i) (second_points c.args.x vs c.args.i)
    c.build_piece-first.result.count c.build_piece-second.result.count c.build_piece-first.result.closed c.build_piece-second.result.closed
    _ c.build_piece-first.new.out _ c.build_piece-second.new.out _ _ c.build_piece-first.new.out_buoys _ c.build_piece-second.new.out_buoys _
    c.first_points.ensures c.second_points-count.ensures.0 (omega (arith, c.requires)) (omega (arith, c.requires, c.second_points-count.ensures))
    (one.piece, (one.out_after, one.out_buoys_after)) (two.piece, (two.out_after, two.out_buoys_after)) in
    record { first = whole.0; second = whole.1.0; written = whole.1.1 }
