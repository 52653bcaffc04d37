-- `check::all_in_range` meets its contract: what was found so far, with what is left of the list, decides for the whole. Assumes nothing.
use mathlib.Core.Path.{◌≡◌}
use mathlib.Core.Bool.{◌&&◌}
use lib.ListN.{drop}
use Rattle.arcstring_check.specs.Check.{all_in_range}
use Rattle.arcstring_check.proofs.inner.checks.all_in_range.Given as goal

abbrev pub invariant-loop-x : goal.invariant-loop-x
invariant-loop-x l = l.all && all_in_range (drop l.x-index l.list) ≡ all_in_range l.list
