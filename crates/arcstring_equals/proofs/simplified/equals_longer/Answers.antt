-- `equals_longer`: the two at once, and then the shorter against a simplified copy of the longer. Assumes nothing.
use mathlib.Core.Path.{◌∙◌}
use Rattle.arcstring_check.proofs.Answers.{left}
use Rattle.arcstring_equals.proofs.Equals.{longer_at_once, longer_refused, longer_answered}
use Rattle.arcstring_equals.proofs.simplified.equals_longer.Goals as goal

pub returns-then-equal_strings : goal.returns-then-equal_strings
returns-then-equal_strings c = longer_at_once _ _ _ c.equal_strings.ensures c.if-equal_strings.true

pub returns-in_err-copy : goal.returns-in_err-copy
returns-in_err-copy c =
    left _ _ c.from_residual.ensures.1 ∙ longer_refused _ _ _ c.equal_strings.ensures _ c.if-equal_strings.false c.in_err-copy.ensures

pub returns : goal.returns
returns c = longer_answered _ _ _ c.equal_strings.ensures _ _ c.if-equal_strings.false c.in_ok-copy.ensures c.equal_strings-2.ensures
