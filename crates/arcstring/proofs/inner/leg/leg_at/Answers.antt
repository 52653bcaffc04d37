-- Leg k goes from vertex k to the one after it. Assumes nothing.
use mathlib.Core.Path.{◌∙◌, ap}
use Prim.Native.Nat.{ℕ}
use Rattle.arcstring.specs.Points.{point_at}
use Rattle.arcstring.specs.Leg.{leg}
use Rattle.arcstring.proofs.Legs.{leg_after}
use Rattle.arcstring.proofs.inner.leg.leg_at.Goals as goal

pub returns : goal.returns
returns c =
    c.leg_between.ensures
    ∙ ap (λ (j : ℕ). leg (point_at c.args.string.v.now c.args.k) (point_at c.args.string.v.now j)) c.position_after.ensures.0
    ∙ leg_after c.args.string.v.now c.args.string.n c.args.k
