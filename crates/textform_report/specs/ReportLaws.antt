-- What is claimed of the report: it may be made track by track, and the pairs of the line of all are those of the tracks' lines. Definitions only. The proofs
-- are in `proofs/ReportLaws.antt`.
use Rattle.std.specs.Prelude.{◌≡◌, List, [], ◌∷◌, ◌++◌, ◌+◌, length}
use Rattle.arcstring_tally.specs.declared.counts.Counts.{Counts}
use Rattle.arcstring_tally.specs.Pairs.{total}
use Rattle.same_crossings.specs.CountLaws.{sum_of_counts}
use Rattle.textform_report.specs.Report.{report_text, sums_of, report_for, with_track, finished}

-- the pairs of the line of all are the pairs of the tracks, summed up
abbrev pub AllPairs : Type 0
AllPairs = (cs : List Counts) → sum_of_counts (sums_of cs) ≡ total sum_of_counts cs

-- one track more at the end: its line has the next number, and its counts are added
abbrev pub OneTrackMore : Type 0
OneTrackMore = (cs : List Counts) (c : Counts) → report_for (cs ++ (c ∷ [])) ≡ with_track (length cs + 1) (report_for cs) c

-- and with the line of all it is the whole text
abbrev pub ReportFinished : Type 0
ReportFinished = (cs : List Counts) → finished (report_for cs) ≡ report_text cs
