-- What the counting program prints for what it reads. Definitions only.
use Rattle.std.specs.Prelude.{List, ℕ, Float}
use Rattle.arcstring_check.specs.Answer.{Answer, refused, answered, unless_refused, pick}
use Rattle.arcstring.specs.Points.{ArcString, points}
use Rattle.arcstring_check.specs.Check.{build_check, no_margin}
use Rattle.arcstring_build.specs.Build.{built_string}
use Rattle.arcstring.specs.Leg.{legs}
use Rattle.arcstring_tally.specs.declared.counts.Counts.{Counts}
use Rattle.arcstring_tally.specs.Pairs.{pairs_between, counts_of}
use Rattle.textform.specs.Text.{State, reading, well_formed}
use Rattle.textform_count.specs.Print.{printed}

-- the counts of every leg of the first with every leg of the second, with no margin
unfoldable pub counts_between : ArcString → ArcString → Counts
counts_between a b = counts_of (pairs_between no_margin (legs a.vertices a.closed) (legs b.vertices b.closed))

-- both are built, the first first: 1, 2, 3 and 4 of the first before those of the second
unfoldable pub count_built : List Float → List Float → Answer Counts
count_built a b =
    unless_refused (build_check a) (unless_refused (build_check b) (answered (counts_between (built_string (points a)) (built_string (points b)))))

-- malformed input is refused by 8 before everything else
unfoldable pub count_state : State → Answer Counts
count_state s = pick (well_formed s) (count_built s.a s.b) (refused 8)

-- the bytes printed, of the bytes read
unfoldable pub output : List ℕ → List ℕ
output bytes = printed (count_state (reading bytes))
