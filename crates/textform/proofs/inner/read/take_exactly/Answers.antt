-- `read::take_exactly` goes on where the byte is the one that has to stand there. Assumes nothing.
use borrow.Author.Tests.{eq-eqb, ne_eqb}
use Rattle.textform.proofs.inner.read.Places.{rule_at, some_power}
use Rattle.textform.proofs.inner.read.take_exactly.Goals as goal

pub onward-requires : goal.onward-requires
onward-requires c = ((rule_at _ _ c.requires).in-row, some_power _)

pub returns-then-byte-c : goal.returns-then-byte-c
returns-then-byte-c c a b = rw (eq-eqb _ _ c.if-byte-c.true) (c.onward.ensures a b)

pub returns : goal.returns
returns c a b = rw (ne_eqb _ _ c.if-byte-c.false) (c.malformed.ensures a b)
