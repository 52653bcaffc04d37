-- `overlaps_apart`: neither string within the other, and a leg with both ends along the other. Assumes nothing.
use mathlib.Core.Path.{◌∙◌}
use Rattle.arcstring_equals.proofs.Overlaps.{not-apart, are_apart}
use Rattle.arcstring_equals.proofs.simplified.overlaps_apart.Goals as goal

pub returns-then-not-apart : goal.returns-then-not-apart
returns-then-not-apart c = not-apart _ _ _ c.apart.ensures c.if-not-apart.true

pub returns : goal.returns
returns c = c.overlap_legs.ensures ∙ are_apart _ _ _ c.apart.ensures c.if-not-apart.false
