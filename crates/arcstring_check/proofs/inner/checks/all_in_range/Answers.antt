-- `check::all_in_range` meets its contract: what was found so far, with what is left of the list, decides for the whole. Assumes nothing.
use borrow.Author.Rules.{rules}
use Rattle.arcstring_check.proofs.Checks.{range_next, range_end}
use Rattle.arcstring_check.proofs.inner.checks.all_in_range.Goals as goal

pub loop-x-preserved : goal.loop-x-preserved
loop-x-preserved c = range_next c.args.list.now c.loop-x.x-index c.loop-x.all _ c.loop-x.invariant _ (search rules) c.in_range-all.ensures

pub returns : goal.returns
returns c = range_end _ c.loop-x.x-index _ _ c.loop-x.invariant c.loop-x-test.false
