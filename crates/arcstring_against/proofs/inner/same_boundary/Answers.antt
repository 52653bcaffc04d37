-- Two boundaries by the two flags. Assumes nothing.
use mathlib.Core.Path.{ap₂, ◌∙◌}
use mathlib.Core.List.{List}
use lib.Ieee.{Float}
use Rattle.arcstring.specs.Points.{points}
use Rattle.arcstring_against.specs.Against.{boundary, all_near, same_boundary}
use Rattle.arcstring_against.proofs.Against.{both_closed, one_closed, both_open}
use Rattle.arcstring_against.proofs.inner.same_boundary.Goals as goal

pub returns-then-a-b : goal.returns-then-a-b
unfolding same_boundary
returns-then-a-b c = both_closed c.args.a.closed c.args.b.closed _ c.if-a-b.true

pub returns-then-a-b-2 : goal.returns-then-a-b-2
unfolding same_boundary
returns-then-a-b-2 c = one_closed c.args.a.closed c.args.b.closed _ c.if-a-b.false c.if-a-b-2.true

pub returns : goal.returns
unfolding same_boundary
returns c =
    both_open c.args.a.closed c.args.b.closed _ _ c.if-a-b-2.false
    (c.ends_near.ensures
    ∙ ap₂ (λ (v w : List Float). all_near (boundary (points v)) (boundary (points w))) c.vertices.ensures.0 c.vertices-2.ensures.0)
