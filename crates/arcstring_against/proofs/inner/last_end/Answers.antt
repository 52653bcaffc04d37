-- The last vertex, normalised once more. Assumes nothing.
use Rattle.arcstring_against.proofs.Against.{end_last}
use Rattle.arcstring_against.proofs.inner.last_end.Goals as goal

pub returns : goal.returns
returns c = end_last c.args.string _ _ c.requires c.normalize_unless_short.ensures c.at.ensures
