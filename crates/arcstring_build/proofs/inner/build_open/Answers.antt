-- `build_open` normalises the first points of one list into another: after i turns the first i are written. Assumes nothing.
use mathlib.Core.Path.{sym, ap, ◌∙◌}
use native.Mathlib.Omega.{arith}
use Rattle.sphericalpoint.specs.Point.{normalized_unless_short}
use Rattle.arcstring.proofs.Splices.{splice_nothing}
use Rattle.arcstring.proofs.Moves.{map-step, map_all}
use Rattle.arcstring_build.proofs.inner.build_open.Goals as goal

pub loop-i-init : goal.loop-i-init
loop-i-init c = sym (splice_nothing _ 0)

pub loop-i-preserved : goal.loop-i-preserved
loop-i-preserved c =
    map-step normalized_unless_short _ c.loop-i.i _ _ _ _ (omega arith) c.loop-i.invariant
    (c.normalize_unless_short.ensures ∙ ap normalized_unless_short c.vertex_at-p.ensures) c.put_vertex.ensures

pub returns : goal.returns
returns c = map_all normalized_unless_short _ _ c.loop-i.i _ _ c.requires.0 (omega arith) c.loop-i.invariant
