-- `read::take_digit` puts a digit after those so far, which `Reading` has fit. Assumes nothing.
use mathlib.Core.Path.{sym}
use Rattle.textform.proofs.inner.read.Places.{rule_at}
use Rattle.textform.proofs.inner.read.Reading.{digits_fit, digit_fits, digit_next}
use Rattle.textform.proofs.inner.read.take_digit.Goals as goal

pub overflow_mul-r : goal.overflow_mul-r
overflow_mul-r c = record { fits = digits_fit c.args.r }

pub overflow_add-r : goal.overflow_add-r
overflow_add-r c = record { fits = digit_fits c.args.r c.args.byte _ _ (sym c.in-Some.ensures) c.from.ensures }

pub onward-requires : goal.onward-requires
onward-requires c =
    ((rule_at _ _ c.requires).0.in-row, digit_next c.args.r c.args.byte _ _ (sym c.in-Some.ensures) c.from.ensures c.requires)
