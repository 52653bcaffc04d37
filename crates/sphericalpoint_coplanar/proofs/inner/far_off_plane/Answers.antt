-- `inner::far_off_plane` meets its contract, by `FarOff`. Assumes nothing.
use mathlib.Core.Path.{◌≡◌, ap, ◌∙◌, subst}
use mathlib.Core.Bool.{true, ◌&&◌}
use lib.Ieee.{Float, binary64, of_bits, le}
use Rattle.ieee754.specs.Size.{abs}
use Rattle.ieee754.specs.Value.{value}
use Rattle.sphericalpoint_coplanar.proofs.FarOff.{not_in_plane}
use Rattle.sphericalpoint_coplanar.proofs.inner.far_off_plane.Goals as goal

pub returns : goal.returns
returns c h =
    not_in_plane _ _ c.magnitude.result (c.magnitude.ensures ∙ ap (λ (d : Float). value (abs d)) c.xyz_dot.ensures)
    (subst (λ (s : Float). le (of_bits binary64 0x3e7a_d7f2_9abc_af48) c.magnitude.result && le s (of_bits binary64 0x4030_0000_0000_0000) ≡ true)
    c.xyz_dot-2.ensures h)
