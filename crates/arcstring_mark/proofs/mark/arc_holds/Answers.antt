-- The test of a leg by itself, by its ends. Assumes nothing.
use mathlib.Core.Path.{ap₂, ◌∙◌}
use Rattle.sphericalpoint.specs.declared.SphericalPoint.{SphericalPoint}
use Rattle.arcstring.specs.Leg.{leg}
use Rattle.arcstring_mark.specs.Mark.{mark_on_leg}
use Rattle.arcstring_mark.proofs.mark.arc_holds.Goals as goal

pub returns : goal.returns
returns c =
    c.leg_holds.ensures ∙ ap₂ (λ (s t : SphericalPoint). mark_on_leg c.args.p (leg s t)) c.start_of-a.ensures c.end_of-b.ensures
