-- `read::in_row` stands within its bounds: no digit is held. Assumes nothing.
use native.Mathlib.Omega.{arith}
use Rattle.textform.specs.Kept.{digits_before}
use Rattle.textform.proofs.inner.read.in_row.Goals as goal

pub invariant_of-next : goal.invariant_of-next
unfolding digits_before
invariant_of-next c =
    record { sound = record { place_within = omega arith; word_fits = omega arith; a_fits = c.args.r.sound.a_fits; b_fits = c.args.r.sound.b_fits } }
