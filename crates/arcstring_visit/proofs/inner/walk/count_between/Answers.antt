-- The legs of one string against those of another, counted. Assumes nothing.
use Rattle.arcstring_visit.specs.Visit.{visits_from}
use Rattle.arcstring_visit.proofs.inner.walk.count_between.Goals as goal

pub returns : goal.returns
unfolding visits_from
returns c = c.visit.ensures.value
