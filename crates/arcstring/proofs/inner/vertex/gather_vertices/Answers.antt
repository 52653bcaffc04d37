-- `gather_vertices` writes the vertices at the positions: after i turns those of the first i. Assumes nothing.
use mathlib.Core.Path.{sym}
use native.Mathlib.Omega.{arith}
use Rattle.arcstring.specs.Points.{point_at}
use Rattle.arcstring.proofs.Splices.{splice_nothing}
use Rattle.arcstring.proofs.Moves.{gather_vertex, gather_vertices}
use Rattle.arcstring.proofs.inner.vertex.gather_vertices.Goals as goal

pub loop-i-init : goal.loop-i-init
loop-i-init c = sym (splice_nothing _ _)

pub loop-i-preserved : goal.loop-i-preserved
loop-i-preserved c =
    gather_vertex (point_at c.args.v.now) c.args.at.now c.loop-i.i c.args.out.now _ _ _ (omega arith) c.loop-i.invariant c.vertex_at.ensures
    c.put_vertex.ensures

pub returns : goal.returns
returns c = gather_vertices (point_at c.args.v.now) c.args.at.now c.loop-i.i c.args.out.now _ (omega arith) c.loop-i.invariant
