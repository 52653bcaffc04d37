-- A run that is not empty starts within the list, whose length fits. Assumes nothing.
use Rattle.std.proofs.Common.{sym, ◌∙◌, arith}
use Rattle.arcstring_calls.proofs.Runs.{run_starts_within}
use Rattle.arcstring_calls.proofs.walk.arcstring_run.Goals as goal

pub overflow_mul-start : goal.overflow_mul-start
overflow_mul-start c = omega (arith, run_starts_within _ _ _ _ c.run-part.ensures (sym c.is_empty.ensures ∙ c.if-is_empty.false), c.well_formed)
