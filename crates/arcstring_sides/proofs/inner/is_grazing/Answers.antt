-- A side value grazes where its magnitude is at most the margin. Assumes nothing.
use mathlib.Core.Path.{refl}
use Rattle.ieee754.proofs.Comparisons.{le-value}
use Rattle.arcstring_sides.specs.Sides.{grazes}
use Rattle.arcstring_sides.proofs.inner.is_grazing.Goals as goal

pub returns : goal.returns
unfolding grazes
returns c = le-value _ _ _ _ c.magnitude.ensures refl
