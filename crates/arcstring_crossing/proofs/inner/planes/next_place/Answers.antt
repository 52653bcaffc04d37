-- One place on where a flag is set. Assumes nothing.
use borrow.Author.Tests.{eq-eqb, ne_eqb}
use Rattle.arcstring_crossing.proofs.inner.planes.next_place.Goals as goal

pub returns-then-flag-eq0 : goal.returns-then-flag-eq0
returns-then-flag-eq0 c = rw (eq-eqb _ _ c.if-flag-eq0.true)

pub returns-else-flag-eq0 : goal.returns-else-flag-eq0
returns-else-flag-eq0 c = rw (ne_eqb _ _ c.if-flag-eq0.false)
