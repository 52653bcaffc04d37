-- The legs of an accepted string. Assumes nothing.
use mathlib.Core.Path.{ap, ◌∙◌}
use Prim.Native.Nat.{ℕ}
use native.Mathlib.Omega.{arith}
use Rattle.arcstring.specs.Leg.{leg_count}
use Rattle.arcstring_check.proofs.Checks.{stored_whole, stored_some}
use Rattle.arcstring_listing.proofs.Visits.{all_legs}
use Rattle.arcstring_listing.proofs.inner.Accepted.legs.Goals as goal

pub of-string-requires : goal.of-string-requires
of-string-requires c = omega (arith, (stored_whole _ c.args.self.accepted).triples)

pub leg_count-requires : goal.leg_count-requires
leg_count-requires c = omega (arith, stored_some _ c.args.self.accepted, c.of-string.ensures.1)

pub invariant_of-result : goal.invariant_of-result
invariant_of-result c =
    record { within = (c.leg_count.ensures.1, omega (arith, (stored_whole _ c.args.self.accepted).at_most, c.of-string.ensures.1)) }

pub returns : goal.returns
returns c =
    rw c.of-string.ensures.0
    (all_legs _ _ _ c.args.self.accepted (c.leg_count.ensures.0 ∙ ap (λ (n : ℕ). leg_count n c.args.self.closed) c.of-string.ensures.1))
