-- `between_ends_lem` meets its contract by what its calls ensure. Assumes nothing.
use Rattle.arcstring_mark.proofs.Cases.{ends_tested}
use Rattle.arcstring_mark.proofs.inner.holds.between_ends.Goals as goal

pub returns : goal.returns
returns c =
    ends_tested _ _ _ c.xyz_dot-ends.ensures c.xyz_dot.ensures c.xyz_dot-2.ensures c.xyz_add_xyz.ensures
    c.xyz_dot-near_side.ensures
