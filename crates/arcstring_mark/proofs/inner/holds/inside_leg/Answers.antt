-- `inside_leg` meets its contract, whichever way its tests go. Assumes nothing.
use mathlib.Core.Path.{refl, sym, ap, ap₂, ◌∙◌}
use lib.Ieee.{Float, binary64, div, lt}
use Rattle.ieee754.specs.Size.{abs}
use Rattle.sphericalpoint.proofs.Tolerances.{coplanar_bits}
use Rattle.arcstring_mark.proofs.Cases.{far_off, outside, no_inside, between}
use Rattle.arcstring_mark.proofs.inner.holds.inside_leg.Goals as goal

pub returns-then-far_off_plane : goal.returns-then-far_off_plane
returns-then-far_off_plane c =
    far_off _ _ _ c.xyz_cross-normal.result _ c.xyz_cross-normal.ensures refl (c.far_off_plane.ensures c.if-far_off_plane.true)

pub returns-then-not-between_ends : goal.returns-then-not-between_ends
returns-then-not-between_ends c =
    outside _ _ _ c.xyz_cross-normal.result _ c.xyz_cross-normal.ensures refl (sym c.between_ends.ensures ∙ c.if-not-between_ends.true)

pub returns : goal.returns
returns c =
    between _ _ _ c.xyz_cross-normal.result c.root_of_squares-length.result c.xyz_cross-normal.ensures c.root_of_squares-length.ensures _
    (ap₂ (λ (s t : Float). lt (div binary64 s c.root_of_squares-length.result) t) (c.size.ensures ∙ ap abs c.xyz_dot.ensures) coplanar_bits)
    (ap (lt c.root_of_squares-length.result) (sym coplanar_bits) ∙ c.if-length.false)
    (sym c.between_ends.ensures ∙ c.if-not-between_ends.false)

pub returns-then-length : goal.returns-then-length
returns-then-length c =
    no_inside _ _ _ c.xyz_cross-normal.result c.root_of_squares-length.result c.xyz_cross-normal.ensures c.root_of_squares-length.ensures
    (ap (lt c.root_of_squares-length.result) (sym coplanar_bits) ∙ c.if-length.true)
