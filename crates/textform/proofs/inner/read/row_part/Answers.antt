-- `read::row_part` is its definition, whichever way its tests go. Assumes nothing.
use borrow.Author.Tests.{eq-eqb, ne_eqb}
use Rattle.textform.specs.Text.{row_part}
use Rattle.textform.proofs.inner.read.row_part.Goals as goal

pub returns-then-k-eq0 : goal.returns-then-k-eq0
unfolding row_part
returns-then-k-eq0 c = simp (eq-eqb _ _ c.if-k-eq0.true)

pub returns-then-k-eq-LINE_FEED_AT : goal.returns-then-k-eq-LINE_FEED_AT
unfolding row_part
returns-then-k-eq-LINE_FEED_AT c = simp (ne_eqb _ _ c.if-k-eq0.false, eq-eqb _ _ c.if-k-eq-LINE_FEED_AT.true)

pub returns : goal.returns
unfolding row_part
returns c = simp (ne_eqb _ _ c.if-k-eq0.false, ne_eqb _ _ c.if-k-eq-LINE_FEED_AT.false) c.float_part.ensures
