-- Near the one or near the other. Assumes nothing.
use Rattle.arcstring_against.proofs.Against.{either_near}
use Rattle.arcstring_against.proofs.inner.near_either.Goals as goal

pub returns : goal.returns
returns c = either_near _ _ _ _ _ c.is_near.ensures c.is_near-2.ensures
