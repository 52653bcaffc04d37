-- `inner::coplanar_of` meets its contract, by the two parts of its definition. Assumes nothing.
use mathlib.Core.Path.{◌∙◌}
use Rattle.sphericalpoint_coplanar.proofs.Cases.{ends_equal, ends_differ}
use Rattle.sphericalpoint_coplanar.proofs.inner.coplanar_of.Goals as goal

pub returns-then-xyz_eq : goal.returns-then-xyz_eq
returns-then-xyz_eq c = ends_equal _ _ _ (cc)

pub returns : goal.returns
returns c = c.on_leg.ensures ∙ ends_differ _ _ _ (cc)
