-- Each end of the left near an end of the right. Assumes nothing.
use Rattle.arcstring_against.proofs.Against.{ends_meet_ends}
use Rattle.arcstring_against.proofs.inner.ends_near.Goals as goal

pub returns : goal.returns
returns c =
    ends_meet_ends _ _ _ _ _ _ _ _ c.first_end-first.ensures c.last_end-last.ensures c.first_end.ensures
    c.near_either.ensures c.last_end.ensures c.near_either-2.ensures
