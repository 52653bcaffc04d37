-- Near an entry of the near list, or else along a leg. Assumes nothing.
use native.Mathlib.Omega.{arith}
use Rattle.arcstring_check.proofs.Checks.{stored_whole}
use Rattle.arcstring_along.proofs.AlongLegs.{along_near, along-legs}
use Rattle.arcstring_along.proofs.inner.along.along_string.Goals as goal

pub of-requires : goal.of-requires
of-requires c = omega (arith, (stored_whole _ c.args.s.accepted.0).triples, (stored_whole _ c.args.s.accepted.1).triples)

pub returns-then-near_some : goal.returns-then-near_some
returns-then-near_some c = along_near _ _ _ _ _ c.of.ensures.0 c.near_some.ensures c.if-near_some.true

pub returns : goal.returns
returns c =
    along-legs _ _ _ _ _ c.of.ensures.0 c.near_some.ensures c.vertices-string.result _ _ c.vertices-string.ensures.0 c.leg_count.ensures.0
    c.if-near_some.false c.along_some_leg.ensures
