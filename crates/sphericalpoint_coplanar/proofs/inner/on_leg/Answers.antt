-- `inner::on_leg` meets its contract, whichever way its tests go. Assumes nothing.
use mathlib.Core.Path.{refl, sym, ap, ◌∙◌}
use lib.Ieee.{lt}
use Rattle.sphericalpoint.proofs.Tolerances.{coplanar_bits}
use Rattle.sphericalpoint_coplanar.proofs.Cases.{far_off, outside, no_plane, in_plane}
use Rattle.sphericalpoint_coplanar.proofs.inner.on_leg.Goals as goal

pub returns-then-far_off_plane : goal.returns-then-far_off_plane
returns-then-far_off_plane c =
    far_off _ _ _ c.xyz_cross-normal.result _ c.xyz_cross-normal.ensures refl (c.far_off_plane.ensures c.if-far_off_plane.true)

pub returns-then-not-between_ends : goal.returns-then-not-between_ends
returns-then-not-between_ends c =
    outside _ _ _ c.xyz_cross-normal.result _ c.xyz_cross-normal.ensures refl (sym c.between_ends.ensures ∙ c.if-not-between_ends.true)

pub returns-then-normal_length : goal.returns-then-normal_length
returns-then-normal_length c =
    no_plane _ _ _ c.xyz_cross-normal.result c.root_of_squares-normal_length.result c.xyz_cross-normal.ensures c.root_of_squares-normal_length.ensures
    (ap (lt c.root_of_squares-normal_length.result) (sym coplanar_bits) ∙ c.if-normal_length.true)

pub returns : goal.returns
returns c =
    in_plane _ _ _ c.xyz_cross-normal.result c.root_of_squares-normal_length.result c.xyz_cross-normal.ensures c.root_of_squares-normal_length.ensures _
    c.between_in_plane.ensures
    (ap (lt c.root_of_squares-normal_length.result) (sym coplanar_bits) ∙ c.if-normal_length.false)
