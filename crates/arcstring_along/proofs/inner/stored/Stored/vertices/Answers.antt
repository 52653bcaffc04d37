-- The vertices of an accepted string. Assumes nothing.
use native.Mathlib.Omega.{arith}
use Rattle.arcstring_check.proofs.Checks.{stored_whole, stored_some}
use Rattle.arcstring_along.proofs.inner.stored.Stored.vertices.Goals as goal

pub of-requires : goal.of-requires
of-requires c = omega (arith, (stored_whole _ c.args.self.accepted.0).triples)

pub returns : goal.returns
returns c = (c.of.ensures.0, c.of.ensures.1, omega (arith, c.of.ensures.1, stored_some _ c.args.self.accepted.0))
