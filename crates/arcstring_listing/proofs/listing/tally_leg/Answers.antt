-- The pairs of a leg with an accepted string are counted: those of a string of two vertices. Assumes nothing.
use mathlib.Core.Path.{ap, ◌∙◌}
use lib.Ieee.{of_bits}
use Rattle.arcstring_tally.specs.Tally.{no_tally, tally_on}
use Rattle.arcstring_listing.proofs.Visits.{accepted_as, visits_as}
use Rattle.arcstring_listing.proofs.listing.tally_leg.Goals as goal

pub invariant_of-a : goal.invariant_of-a
invariant_of-a c = record { accepted = accepted_as _ _ c.leg_string-v.ensures c.requires }

pub returns : goal.returns
unfolding of_bits
returns c = c.tally_two.ensures.0 ∙ ap (tally_on no_tally) (visits_as _ _ c.leg_string-v.ensures _ _ _)
