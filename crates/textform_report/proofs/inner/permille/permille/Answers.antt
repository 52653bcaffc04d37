-- `permille` answers 0 where there are no pairs, and else the quotient of the definition. Assumes nothing.
use Rattle.textform_report.proofs.PermilleLaws.{none_to_divide, some_to_divide}
use Rattle.textform_report.proofs.inner.permille.permille.Goals as goal

pub returns-then-pairs-eq0 : goal.returns-then-pairs-eq0
returns-then-pairs-eq0 c = none_to_divide c.args.c c.if-pairs-eq0.true

pub returns : goal.returns
returns c = some_to_divide c.args.c c.if-pairs-eq0.false
