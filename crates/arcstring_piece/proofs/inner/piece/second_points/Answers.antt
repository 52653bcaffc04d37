-- `second_points` writes the point, and after it the vertices from the end of leg i on, or vertex 0 alone, floats and numbers alike. Assumes nothing.
use native.Mathlib.Omega.{arith}
use Rattle.arcstring_piece.proofs.inner.piece.HalfPoints.{second_written, second_closing}
use Rattle.arcstring_piece.proofs.inner.piece.second_points.Goals as goal

pub returns-then-i-n : goal.returns-then-i-n
returns-then-i-n c =
    let low = rw c.len-n.ensures at c.if-i-n.true in
    rw c.len-n.ensures (
      second_written c.args.string.v.now c.args.string.buoys.now c.args.i c.args.x c.args.string.as_many c.requires.0 _ _ _
          c.args.out_buoys.now c.copy_items.new.out (omega (arith, c.requires)) c.put_vertex.ensures low
          (rw c.len-n.ensures at c.copy_run.ensures) (rw c.len-n.ensures at c.copy_items.ensures),
      omega (arith, c.requires, low),
      omega (arith, c.requires, low),
    )

pub returns : goal.returns
returns c = (
  second_closing c.args.string.v.now c.args.string.buoys.now c.args.i c.args.x c.args.string.as_many c.requires.0 _ _ _ c.args.out_buoys.now _ (omega arith)
      c.put_vertex.ensures (omega arith) c.copy_run-2.ensures c.copy_items-2.ensures,
  omega arith,
  omega arith,
)
