-- `normalize_points` normalises the first points of a list in place: after i turns the first i are normalised. Assumes nothing.
use mathlib.Core.Path.{sym, ap, ◌∙◌}
use native.Mathlib.Omega.{arith}
use Rattle.sphericalpoint.specs.Point.{normalized_unless_short}
use Rattle.arcstring.proofs.Splices.{splice_nothing}
use Rattle.arcstring.proofs.Moves.{map-step-in_place, map_all}
use Rattle.arcstring_build.proofs.inner.normalize_points.Goals as goal

pub loop-i-init : goal.loop-i-init
loop-i-init c = sym (splice_nothing _ 0)

pub loop-i-preserved : goal.loop-i-preserved
loop-i-preserved c =
    map-step-in_place normalized_unless_short c.loop-i.i _ _ _ _ (omega arith) c.loop-i.invariant
    (c.normalize_unless_short.ensures ∙ ap normalized_unless_short c.vertex_at-p.ensures) c.put_vertex.ensures

pub returns : goal.returns
returns c = map_all normalized_unless_short _ _ c.loop-i.i _ _ c.requires (omega arith) c.loop-i.invariant
