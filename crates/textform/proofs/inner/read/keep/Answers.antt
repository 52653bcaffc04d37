-- `read::keep` adds one float, or leaves a full list, by `Keeping`. Assumes nothing.
use native.Mathlib.Omega.{arith}
use Rattle.textform.proofs.inner.read.Keeping.{kept_full, kept_more}
use Rattle.textform.proofs.inner.read.keep.Goals as goal

pub returns-then-n-eq-FLOATS_KEPT : goal.returns-then-n-eq-FLOATS_KEPT
returns-then-n-eq-FLOATS_KEPT c = (kept_full _ _ _ (omega arith) c.if-n-eq-FLOATS_KEPT.true, omega arith)

pub returns : goal.returns
returns c = (kept_more _ _ c.args.n (omega arith) _ (omega arith) c.coordinate.ensures, omega arith)
