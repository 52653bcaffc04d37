-- `read::coordinate` gives the float of the bits, or 2 where they are a NaN's, by `Words`. Assumes nothing.
use lib.Ieee.{of_bits}
use Rattle.textform.proofs.inner.read.Words.{not_nan, in_place_nan, in_place_other}
use Rattle.textform.proofs.inner.read.coordinate.Goals as goal

pub returns-then-rest-gt-INFINITY : goal.returns-then-rest-gt-INFINITY
unfolding of_bits
returns-then-rest-gt-INFINITY c = in_place_nan c.args.word c.if-rest-gt-INFINITY.true

pub float_from_bits-result : goal.float_from_bits-result
float_from_bits-result c = not_nan c.args.word c.if-rest-gt-INFINITY.false

pub returns : goal.returns
returns c = in_place_other c.args.word c.if-rest-gt-INFINITY.false
