-- What a reading and the three lists that it fills hold. For the contracts of inner functions. Definitions only.
use Rattle.std.specs.Prelude.{◌≡◌, List, ℕ, Float}
use Rattle.arcstring_check.specs.Answer.{Answer}
use Rattle.textform.specs.Held.{held_state}
use Rattle.textform_report.specs.Report.{Report}
use Rattle.textform_season.specs.declared.inner.reading.Reading.{Reading}
use Rattle.textform_season.specs.Season.{Season}
use Rattle.textform_season.specs.Kept.{held_tracks}

-- what the reading and the three lists hold
abbrev pub held_season : Reading → List Float → List Float → List ℕ → Season (Answer Report)
held_season r limit track out =
    record { text = held_state r.row limit track; column = r.column; last = r.last; done = held_tracks r.tracks out }

-- whatever the three lists hold, what a change makes of what was held
abbrev pub Becomes : Reading → (Season (Answer Report) → Season (Answer Report)) → Reading → Type 0
Becomes r change q = (limit track : List Float) (out : List ℕ) → held_season q limit track out ≡ change (held_season r limit track out)
