-- `read::take_name` goes on in a row of the string that is named. Assumes nothing.
use borrow.Author.Tests.{eq-eqb, ne_eqb}
use Rattle.textform.proofs.inner.read.Places.{rule_at, some_power}
use Rattle.textform.proofs.inner.read.take_name.Goals as goal

pub onward-requires : goal.onward-requires
onward-requires c = ((rule_at _ _ c.requires).0.in-row, some_power _)

pub returns-then-byte-eq65 : goal.returns-then-byte-eq65
returns-then-byte-eq65 c a b = rw (eq-eqb _ _ c.if-byte-eq65.true) (c.onward.ensures a b)

pub onward-requires-then-byte-eq66 : goal.onward-requires-then-byte-eq66
onward-requires-then-byte-eq66 c = ((rule_at _ _ c.requires).0.in-row, some_power _)

pub returns-then-byte-eq66 : goal.returns-then-byte-eq66
returns-then-byte-eq66 c a b = rw (ne_eqb _ _ c.if-byte-eq65.false, eq-eqb _ _ c.if-byte-eq66.true) (c.onward-then-byte-eq66.ensures a b)

pub returns : goal.returns
returns c a b = rw (ne_eqb _ _ c.if-byte-eq65.false, ne_eqb _ _ c.if-byte-eq66.false) (c.malformed.ensures a b)
