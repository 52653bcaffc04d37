-- `run` gives the part of the list between two positions, and the empty part where there is none. Assumes nothing.
use borrow.Author.Tests.{eq-eqb, ne_eqb, lt-leb, le-leb}
use Rattle.arcstring_walk.specs.Walk.{run_of}
use Rattle.arcstring_walk.proofs.walk.run.Goals as goal

pub returns-then-n-ne0 : goal.returns-then-n-ne0
unfolding run_of
returns-then-n-ne0 c = simp (ne_eqb _ _ c.if-n-ne0.true)

pub returns-then-from-to : goal.returns-then-from-to
unfolding run_of
returns-then-from-to c = simp (eq-eqb _ _ c.if-n-ne0.false, lt-leb _ _ c.if-from-to.true)

pub returns-then-to-n : goal.returns-then-to-n
unfolding run_of
returns-then-to-n c = simp (eq-eqb _ _ c.if-n-ne0.false, le-leb _ _ c.if-from-to.false, lt-leb _ _ c.if-to-n.true)

pub returns : goal.returns
unfolding run_of
returns c = simp (eq-eqb _ _ c.if-n-ne0.false, le-leb _ _ c.if-from-to.false, le-leb _ _ c.if-to-n.false)
