-- `read::part_at` is its definition, whichever way its tests go. Assumes nothing.
use borrow.Author.Tests.{lt-ltb, le-ltb}
use Rattle.textform.specs.Text.{part_at}
use Rattle.textform.proofs.inner.read.part_at.Goals as goal

pub returns-then-place-lt-ROW_START : goal.returns-then-place-lt-ROW_START
unfolding part_at
returns-then-place-lt-ROW_START c = simp (lt-ltb _ _ c.if-place-lt-ROW_START.true)

pub returns-then-place-lt-MALFORMED : goal.returns-then-place-lt-MALFORMED
unfolding part_at
returns-then-place-lt-MALFORMED c = simp (le-ltb _ _ c.if-place-lt-ROW_START.false, lt-ltb _ _ c.if-place-lt-MALFORMED.true) c.row_part.ensures

pub returns : goal.returns
unfolding part_at
returns c = simp (le-ltb _ _ c.if-place-lt-ROW_START.false, le-ltb _ _ c.if-place-lt-MALFORMED.false)
