-- `track_row` takes a row of the last track or of the next one, by `Held`. Assumes nothing.
use mathlib.Core.Path.{ap, ◌∙◌}
use mathlib.Core.Bool.{true}
use Rattle.textform_season.specs.Season.{on_in_row}
use Rattle.textform_season.specs.Held.{held_season}
use Rattle.textform_season.proofs.inner.read.Held.{same_track, one_more_track, no_such_track}
use native.Mathlib.Omega.{arith}
use Rattle.textform_season.proofs.inner.read.track_row.Goals as goal

pub returns-then-n-r : goal.returns-then-n-r
returns-then-n-r c =
    c.on_in_row.ensures _ _ _ ∙ same_track (held_season c.args.r c.args.limit.now c.args.track.now c.args.out.now) c.args.n c.if-n-r.true

pub next_track-requires : goal.next_track-requires
next_track-requires c = omega (arith, c.if-n-r-2.true)

pub returns-then-n-r-2 : goal.returns-then-n-r-2
returns-then-n-r-2 c =
    c.on_in_row-then-n-r-2.ensures _ _ _
    ∙ ap (on_in_row true) c.next_track.ensures
    ∙ one_more_track (held_season c.args.r c.args.limit.now c.args.track.now c.args.out.now) c.args.n c.if-n-r.false c.if-n-r-2.true

pub returns : goal.returns
returns c =
    c.malformed.ensures _ _ _
    ∙ no_such_track (held_season c.args.r c.args.limit.now c.args.track.now c.args.out.now) c.args.n c.if-n-r.false c.if-n-r-2.false
