-- `cuts_leg` tests the leg's start, its end, and whether the point is along it. Assumes nothing.
use Rattle.arcstring_split_leg.proofs.LegCuts.{at_start, at-end, between_ends_lem}
use Rattle.arcstring_split_leg.proofs.cut_leg.cuts_leg.Goals as goal

pub returns-then-xyz_eq : goal.returns-then-xyz_eq
returns-then-xyz_eq c = at_start _ _ _ _ c.start_of.ensures c.xyz_eq.ensures c.if-xyz_eq.true

pub returns-then-xyz_eq-2 : goal.returns-then-xyz_eq-2
returns-then-xyz_eq-2 c =
    at-end _ _ _ _ c.start_of.ensures c.xyz_eq.ensures _ _ c.end_of.ensures c.xyz_eq-2.ensures
    c.if-xyz_eq.false c.if-xyz_eq-2.true

pub returns : goal.returns
returns c =
    between_ends_lem _ _ _ _ c.start_of.ensures c.xyz_eq.ensures _ _ c.end_of.ensures
    c.xyz_eq-2.ensures c.if-xyz_eq.false _ c.if-xyz_eq-2.false c.along_leg.ensures
