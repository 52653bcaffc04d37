-- `build_closed` normalises what `build_open` wrote a second time. Assumes nothing.
use Rattle.arcstring_build.proofs.Builds.{closed_of}
use Rattle.arcstring_build.proofs.inner.build_closed.Goals as goal

pub returns : goal.returns
returns c = closed_of c.args.v.now c.args.m _ _ _ c.requires.0 c.build_open.ensures c.normalize_points.ensures
