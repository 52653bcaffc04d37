-- The first vertex, normalised once more. Assumes nothing.
use Rattle.arcstring_against.proofs.Against.{end_first}
use Rattle.arcstring_against.proofs.inner.first_end.Goals as goal

pub returns : goal.returns
returns c = end_first c.args.string _ _ c.requires c.normalize_unless_short.ensures c.at.ensures
