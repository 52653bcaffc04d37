-- Neither string within the other, and then whether a pair of their legs keeps a point. Assumes nothing.
use lib.Ieee.{of_bits}
use Rattle.arcstring_relation.proofs.Relations.{not-apart, some_kept}
use Rattle.arcstring_relation.proofs.relation.crosses_string.Goals as goal

pub returns-then-not-apart : goal.returns-then-not-apart
returns-then-not-apart c = not-apart c.args.a c.args.b _ c.apart.ensures c.if-not-apart.true

pub returns : goal.returns
unfolding of_bits
returns c = some_kept c.args.a c.args.b _ c.apart.ensures c.if-not-apart.false _ c.tally_two-t.ensures.0
