-- The test of each of the four. Assumes nothing.
use Rattle.arcstring_sides.proofs.Signs.{every_tested}
use Rattle.arcstring_sides.proofs.inner.every_side.Goals as goal

pub returns : goal.returns
returns g c = λ t told.
    every_tested t c.args.s _ _ _ _ c.well_formed.0.1.0.1 (told _ _ c.test.ensures) (told _ _ c.test-2.ensures) (told _ _ c.test-3.ensures)
    (told _ _ c.test-4.ensures)
