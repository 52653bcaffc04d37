-- `first_points` writes the vertices up to the start of leg i, and the point after them, floats and numbers alike. Assumes nothing.
use native.Mathlib.Omega.{arith}
use Rattle.arcstring_piece.proofs.inner.piece.HalfPoints.{first_written}
use Rattle.arcstring_piece.proofs.inner.piece.first_points.Goals as goal

pub returns : goal.returns
returns c =
    first_written c.args.string.v.now c.args.string.buoys.now c.args.i c.args.x c.args.string.as_many c.requires.0 _ _ _ _ _ (omega arith)
    c.copy_run.ensures c.copy_items.ensures c.put_vertex.ensures
