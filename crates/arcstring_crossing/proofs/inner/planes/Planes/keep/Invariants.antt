-- The planes of a string's legs are written one after the other. The loop's invariant: those before k are. Assumes nothing.
use Rattle.arcstring_crossing.specs.Plane.{PlanesOf}
use Rattle.arcstring_crossing.proofs.inner.planes.Planes.keep.Given as goal

abbrev pub invariant-loop-k : goal.invariant-loop-k
invariant-loop-k g l = PlanesOf l.legs.string.v.now l.legs.string.n l.k l.self
