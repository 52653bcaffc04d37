-- `read::place_after` is its definition, whichever way its test goes. Assumes nothing.
use borrow.Author.Tests.{eq-eqb, ne_eqb}
use Rattle.textform.specs.Text.{place_after}
use Rattle.textform.proofs.inner.read.place_after.Goals as goal

pub returns-then-place-eq-ROW_LAST : goal.returns-then-place-eq-ROW_LAST
unfolding place_after
returns-then-place-eq-ROW_LAST c = simp (eq-eqb _ _ c.if-place-eq-ROW_LAST.true)

pub returns-else-place-eq-ROW_LAST : goal.returns-else-place-eq-ROW_LAST
unfolding place_after
returns-else-place-eq-ROW_LAST c = simp (ne_eqb _ _ c.if-place-eq-ROW_LAST.false)
