-- `leg_holds` says yes where the mark equals an end, and else asks whether it lies inside. Assumes nothing.
use Rattle.arcstring_mark.proofs.Cases.{yes_at_end, else_inside}
use Rattle.arcstring_mark.proofs.inner.holds.leg_holds.Goals as goal

pub returns-then-xyz_eq : goal.returns-then-xyz_eq
returns-then-xyz_eq c =
    yes_at_end c.new-a.ensures c.new-b.ensures c.new-p.ensures c.xyz_eq.ensures c.xyz_eq-2.ensures c.if-xyz_eq.true

pub returns : goal.returns
returns c =
    else_inside c.new-a.ensures c.new-b.ensures c.new-p.ensures c.xyz_eq.ensures c.xyz_eq-2.ensures _ c.inside_leg.ensures
    c.if-xyz_eq.false
