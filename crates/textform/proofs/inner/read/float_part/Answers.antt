-- `read::float_part` is its definition, whichever way its tests go. Assumes nothing.
use borrow.Author.Tests.{eq-eqb, ne_eqb}
use Rattle.textform.specs.Text.{float_part}
use Rattle.textform.proofs.inner.read.float_part.Goals as goal

pub returns-then-k-eq0 : goal.returns-then-k-eq0
unfolding float_part
returns-then-k-eq0 c = simp (eq-eqb _ _ c.if-k-eq0.true)

pub returns-then-k-eq-LAST_DIGIT_AT : goal.returns-then-k-eq-LAST_DIGIT_AT
unfolding float_part
returns-then-k-eq-LAST_DIGIT_AT c = simp (ne_eqb _ _ c.if-k-eq0.false, eq-eqb _ _ c.if-k-eq-LAST_DIGIT_AT.true)

pub returns : goal.returns
unfolding float_part
returns c = simp (ne_eqb _ _ c.if-k-eq0.false, ne_eqb _ _ c.if-k-eq-LAST_DIGIT_AT.false)
