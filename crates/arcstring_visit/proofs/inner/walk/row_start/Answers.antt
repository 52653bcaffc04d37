-- Where the row of a leg begins. Assumes nothing.
use Rattle.arcstring_visit.specs.Visit.{row_start}
use Rattle.arcstring_visit.proofs.inner.walk.row_start.Goals as goal

pub returns-then-within : goal.returns-then-within
unfolding row_start
returns-then-within c = rw c.if-within.true

pub returns-else-within : goal.returns-else-within
unfolding row_start
returns-else-within c = rw c.if-within.false
