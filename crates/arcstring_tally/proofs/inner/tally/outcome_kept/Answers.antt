-- A kept point is one point, a dropped one none, and no point is none. Assumes nothing.
use Rattle.arcstring_tally.proofs.Tallies.{kept_of_kept, kept_of_dropped, kept_of_none}
use Rattle.arcstring_tally.proofs.inner.tally.outcome_kept.Goals as goal

pub returns-in-Kept : goal.returns-in-Kept
returns-in-Kept c = kept_of_kept _ _ c.in-Kept.is

pub returns-in-Dropped : goal.returns-in-Dropped
returns-in-Dropped c = kept_of_dropped _ _ c.in-Dropped.is

pub returns-in-None : goal.returns-in-None
returns-in-None c = kept_of_none _ c.in-None.is
