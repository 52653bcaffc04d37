-- What the season report prints for what it reads. Definitions only.
use Rattle.std.specs.Prelude.{List, [], ◌∷◌, ℕ, Float}
use Rattle.arcstring_check.specs.Answer.{Answer, refused, answered, unless_refused, map_answer, and_then, pick}
use Rattle.arcstring_check.specs.Check.{build_check}
use Rattle.arcstring_tally.specs.declared.counts.Counts.{Counts}
use Rattle.textform.specs.Print.{refusal_text}
use Rattle.textform_count.specs.Count.{count_built}
use Rattle.textform_report.specs.Report.{report_text}
use Rattle.textform_season.specs.Season.{Season, reading, limit_of, tracks_of, well_formed}

-- Each track counted with the limit, as the counting program counts A with B: both are built, and the track comes first. The first that is refused is all there
-- is to say.
unfoldable pub count_tracks : List Float → List (List Float) → Answer (List Counts)
count_tracks limit [] = answered []
count_tracks limit (track ∷ tracks) =
    and_then (count_built track limit) (λ (c : Counts). map_answer (λ (cs : List Counts). c ∷ cs) (count_tracks limit tracks))

-- 8 before everything else, however late the malformed row stands; then the limit's refusal, then that of the first refused track
unfoldable pub count_season : Season (List (List Float)) → Answer (List Counts)
count_season s = pick (well_formed s) (unless_refused (build_check (limit_of s)) (count_tracks (limit_of s) (tracks_of s))) (refused 8)

abbrev pub printed : Answer (List Counts) → List ℕ
printed (refused n) = refusal_text n
printed (answered cs) = report_text cs

-- the bytes printed, of the bytes read
unfoldable pub output : List ℕ → List ℕ
output bytes = printed (count_season (reading bytes))
