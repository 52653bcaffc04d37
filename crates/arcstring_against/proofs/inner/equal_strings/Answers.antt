-- `==` of two accepted strings: the boundaries, then each along the other. Assumes nothing.
use mathlib.Core.Path.{◌∙◌}
use Rattle.arcstring_against.proofs.Against.{boundaries_differ, left_shorter, left_no_shorter}
use Rattle.arcstring_against.proofs.inner.equal_strings.Goals as goal

pub returns-then-not-same_boundary : goal.returns-then-not-same_boundary
returns-then-not-same_boundary c = boundaries_differ c.args.a c.args.b _ c.same_boundary.ensures c.if-not-same_boundary.true

pub returns-then-a-b : goal.returns-then-a-b
returns-then-a-b c =
    c.each_along.ensures ∙ left_shorter c.args.a c.args.b _ c.same_boundary.ensures c.if-not-same_boundary.false c.if-a-b.true

pub returns-else-a-b : goal.returns-else-a-b
returns-else-a-b c =
    c.each_along-else-a-b.ensures ∙ left_no_shorter c.args.a c.args.b _ c.same_boundary.ensures c.if-not-same_boundary.false c.if-a-b.false
