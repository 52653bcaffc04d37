-- `equals` of two accepted strings: `==`, or else by simplified copies, of the shorter first. Assumes nothing.
use mathlib.Core.Path.{◌∙◌}
use Rattle.arcstring_equals.proofs.Equals.{equal_at_once, left_shorter, left_no_shorter}
use Rattle.arcstring_equals.proofs.simplified.equals_strings.Goals as goal

pub returns-then-equal_strings : goal.returns-then-equal_strings
returns-then-equal_strings c = equal_at_once c.args.a c.args.b _ c.equal_strings.ensures c.if-equal_strings.true

pub returns-then-a-b : goal.returns-then-a-b
returns-then-a-b c =
    c.equals_simplified.ensures ∙ left_shorter c.args.a c.args.b _ c.equal_strings.ensures c.if-equal_strings.false c.if-a-b.true

pub returns-else-a-b : goal.returns-else-a-b
returns-else-a-b c =
    c.equals_simplified-else-a-b.ensures ∙ left_no_shorter c.args.a c.args.b _ c.equal_strings.ensures c.if-equal_strings.false c.if-a-b.false
