-- `check::check_string` meets its contract, whichever way its tests go. Assumes nothing.
use mathlib.Core.Path.{sym, ◌∙◌}
use borrow.Author.Tests.{eqb-true, eqb-false}
use Rattle.arcstring_check.proofs.Checks.{string_empty, string-not_as_many, string_as_many}
use Rattle.arcstring_check.proofs.inner.checks.check_string.Goals as goal

pub returns-then-is_empty : goal.returns-then-is_empty
returns-then-is_empty c = c.check_list.ensures ∙ string_empty _ _ (eqb-true _ _ (sym c.if-is_empty.ensures))

pub returns-then-buoys-v : goal.returns-then-buoys-v
returns-then-buoys-v c =
    c.check_list-then-buoys-v.ensures ∙ string-not_as_many _ _ (eqb-false _ _ (sym c.if-is_empty.ensures)) c.if-buoys-v.true

pub returns : goal.returns
returns c = c.check_list-2.ensures ∙ string_as_many _ _ (eqb-false _ _ (sym c.if-is_empty.ensures)) c.if-buoys-v.false
