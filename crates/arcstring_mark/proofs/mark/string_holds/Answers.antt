-- Whether the walk over the legs finds one that holds the mark. Assumes nothing.
use mathlib.Core.Path.{◌∙◌}
use native.Mathlib.Omega.{arith}
use Rattle.arcstring_check.proofs.Checks.{stored_whole, stored_some}
use Rattle.arcstring_mark.proofs.HoldingLegs.{found_holding}
use Rattle.arcstring_mark.proofs.mark.string_holds.Goals as goal

pub of-string-requires : goal.of-string-requires
of-string-requires c = omega (arith, (stored_whole _ c.requires).triples)

pub leg_count-requires : goal.leg_count-requires
leg_count-requires c = omega (arith, c.of-string.ensures.1, stored_some _ c.requires)

pub returns : goal.returns
returns c =
    c.is_some.ensures ∙ found_holding _ c.of-string.result _ _ c.of-string.ensures.0 c.leg_count.ensures.0 c.first_leg.ensures
