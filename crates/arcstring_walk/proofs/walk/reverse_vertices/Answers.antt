-- `reverse_vertices` writes the vertices last to first: after i turns the last i are written. Assumes nothing.
use native.Mathlib.Omega.{arith}
use Rattle.arcstring.proofs.Moves.{reverse_none, reverse-step, reverse_all}
use Rattle.arcstring_walk.proofs.walk.reverse_vertices.Goals as goal

pub loop-i-init : goal.loop-i-init
loop-i-init c = reverse_none c.args.string.v.now c.args.string.n _ c.args.string.whole

pub loop-i-preserved : goal.loop-i-preserved
loop-i-preserved c =
    reverse-step c.args.string.v.now c.args.string.n c.loop-i.i _ _ _ _ c.args.string.whole (omega arith) c.loop-i.invariant c.at.ensures
    c.put_vertex.ensures

pub returns : goal.returns
returns c = reverse_all c.args.string.v.now c.args.string.n c.loop-i.i _ _ c.args.string.whole (omega arith) c.loop-i.invariant
