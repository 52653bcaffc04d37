-- The planes of a string's legs are written one after the other. Assumes nothing.
use mathlib.Core.Path.{ap, ◌∙◌}
use native.Mathlib.Omega.{arith}
use Rattle.arcstring_crossing.specs.Plane.{plane_of}
use Rattle.arcstring_crossing.proofs.KeptPlanes.{planes_next}
use Rattle.arcstring_crossing.proofs.inner.planes.Planes.keep.Goals as goal

pub loop-k-preserved : goal.loop-k-preserved
loop-k-preserved g c =
    planes_next {N = g.row.N} _ _ _ _ _ _ c.loop-k.invariant (c.plane_of.ensures ∙ ap plane_of c.at.ensures) c.put.ensures.this
    (λ j below. c.put.ensures.others j (omega arith))
