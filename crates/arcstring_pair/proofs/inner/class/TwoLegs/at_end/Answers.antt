-- A point is an end where it is `xyz_eq` to one of the four. Assumes nothing.
use Rattle.arcstring_pair.proofs.Classes.{equal_as, end_tested}
use Rattle.arcstring_pair.proofs.inner.class.TwoLegs.at_end.Goals as goal

pub returns : goal.returns
returns c =
    end_tested _ _ _ _ _ _ _ (equal_as _ _ _ _ c.start_of.ensures c.xyz_eq.ensures)
    (equal_as _ _ _ _ c.end_of.ensures c.xyz_eq-2.ensures)
    (equal_as _ _ _ _ c.start_of-2.ensures c.xyz_eq-3.ensures) (equal_as _ _ _ _ c.end_of-2.ensures c.xyz_eq-4.ensures)
