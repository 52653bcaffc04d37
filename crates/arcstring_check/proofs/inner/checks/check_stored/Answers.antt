-- `check::check_stored` meets its contract, whichever way its test goes. Assumes nothing.
use mathlib.Core.Path.{sym, ◌∙◌}
use borrow.Author.Tests.{eqb-true, eqb-false}
use Rattle.arcstring_check.proofs.Checks.{stored_empty, stored-not_empty}
use Rattle.arcstring_check.proofs.inner.checks.check_stored.Goals as goal

pub returns-then-is_empty : goal.returns-then-is_empty
returns-then-is_empty c = c.check_list.ensures ∙ stored_empty _ (eqb-true _ _ (sym c.if-is_empty.ensures))

pub returns-else-is_empty : goal.returns-else-is_empty
returns-else-is_empty c = c.check_list-else-is_empty.ensures ∙ stored-not_empty _ (eqb-false _ _ (sym c.if-is_empty.ensures))
