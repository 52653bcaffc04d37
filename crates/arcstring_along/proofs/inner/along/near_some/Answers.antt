-- Whether the walk over a near list finds an entry. Assumes nothing.
use mathlib.Core.Path.{◌∙◌}
use Rattle.arcstring_along.proofs.NearEntries.{found_near}
use Rattle.arcstring_along.proofs.inner.along.near_some.Goals as goal

pub returns : goal.returns
returns c = c.is_some.ensures ∙ found_near _ _ _ c.first_near.ensures
