-- `check::check_room` meets its contract, whichever way its test goes. Assumes nothing.
use borrow.Author.Tests.{lt-ltb, le-ltb}
use Rattle.arcstring_check.specs.Check.{room_check}
use Rattle.arcstring_check.proofs.inner.checks.check_room.Goals as goal

pub returns-then-lent-needed : goal.returns-then-lent-needed
unfolding room_check
returns-then-lent-needed c = simp (lt-ltb _ _ c.if-lent-needed.true)

pub returns-else-lent-needed : goal.returns-else-lent-needed
unfolding room_check
returns-else-lent-needed c = simp (le-ltb _ _ c.if-lent-needed.false)
