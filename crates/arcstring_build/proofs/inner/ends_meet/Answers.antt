-- `ends_meet` compares the first and the last point, each normalised. Assumes nothing.
use Rattle.arcstring_build.proofs.Builds.{ends_of}
use Rattle.arcstring_build.proofs.inner.ends_meet.Goals as goal

pub returns : goal.returns
returns c =
    ends_of c.args.string.v.now c.args.string.n _ _ _ _ _ c.args.string.whole c.requires c.at.ensures c.normalize_unless_short-first.ensures
    c.at-2.ensures c.normalize_unless_short-last.ensures c.xyz_eq.ensures
