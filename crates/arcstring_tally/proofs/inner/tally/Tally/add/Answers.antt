-- One pair more: its class goes up by one, and the kept count where it keeps a point. Assumes nothing.
use native.Mathlib.Omega.{arith}
use Rattle.arcstring_tally.proofs.Tallies.{count_clean, count_end, count_grazing, count_apart, kept_of_grazing}
use Rattle.arcstring_tally.proofs.inner.tally.Tally.add.Goals as goal

pub overflow_add-result-in-Grazing-2 : goal.overflow_add-result-in-Grazing-2
overflow_add-result-in-Grazing-2 c = omega (arith, kept_of_grazing _ _ c.outcome_kept.ensures)

pub returns-in-Clean : goal.returns-in-Clean
returns-in-Clean c = count_clean _ _ _ c.in-Clean.is

pub returns-in-End : goal.returns-in-End
returns-in-End c = count_end _ _ _ c.in-End.is

pub returns-in-Grazing : goal.returns-in-Grazing
returns-in-Grazing c = count_grazing _ _ _ _ c.in-Grazing.is c.outcome_kept.ensures

pub returns-in-Apart : goal.returns-in-Apart
returns-in-Apart c = count_apart _ _ c.in-Apart.is
