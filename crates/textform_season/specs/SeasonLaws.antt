-- What is claimed of the season report: what is printed, by the first thing that is wrong with the input; how many tracks and pairs there are at most; that it
-- is the same though tracks are kept one at a time; and that a track's number is read where it stands as it is printed, and nowhere else. Definitions only. The
-- proofs are in `proofs/`: `Outputs`, `TrackNumbers`, `KeptSeasons`, `Columns`. That the input may be fed in pieces is said of every machine over bytes, in
-- textform's `TextLaws`.
use Rattle.std.specs.Prelude.{◌≡◌, true, false, List, [], ◌∷◌, ◌++◌, map, ℕ, suc, ◌≤◌, length, Float}
use Rattle.std.proofs.Math.Option.{Option, none, some}
use Rattle.arcstring_check.specs.Check.{build_check}
use Rattle.arcstring.specs.Points.{points}
use Rattle.arcstring_build.specs.Build.{built_string}
use Rattle.arcstring_tally.specs.declared.counts.Counts.{Counts}
use Rattle.same_crossings.specs.CountLaws.{sum_of_counts}
use Rattle.textform.specs.Print.{decimal, refusal_text}
use Rattle.textform_count.specs.Count.{counts_between}
use Rattle.textform_report.specs.Permille.{most_tracks, most_pairs_of_season}
use Rattle.textform_report.specs.Report.{sums_of, report_text}
use Rattle.textform_season.specs.declared.inner.column.Column.{Column}
use Rattle.textform_season.specs.declared.inner.column.Column.TheVariants as C
use Rattle.textform_season.specs.Season.{column_after, reading, limit_of, tracks_of, well_formed}
use Rattle.textform_season.specs.Output.{output}
use Rattle.textform_season.specs.Kept.{kept_start, kept_fed, kept_answer, printed_report}

-- ---- what is printed, by the first thing that is wrong

-- 8, if the input is malformed, whatever else it has
abbrev pub MalformedFirst : Type 0
MalformedFirst = (bytes : List ℕ) → well_formed (reading bytes) ≡ false → output bytes ≡ refusal_text 8

-- then the limit's refusal, whatever the tracks are
abbrev pub LimitNext : Type 0
LimitNext =
    (bytes : List ℕ) (n : ℕ) → well_formed (reading bytes) ≡ true → build_check (limit_of (reading bytes)) ≡ suc n → output bytes ≡ refusal_text (suc n)

-- no track is refused
abbrev pub AllAccepted : List (List Float) → Type 0
AllAccepted [] = Unit
AllAccepted (track ∷ tracks) = (build_check track ≡ 0) × AllAccepted tracks

-- then that of the first refused track, whatever comes after it
abbrev pub TrackNext : Type 0
TrackNext =
    (bytes : List ℕ) (before : List (List Float)) (track : List Float) (after : List (List Float)) (n : ℕ)
    → well_formed (reading bytes) ≡ true
    → build_check (limit_of (reading bytes)) ≡ 0
    → tracks_of (reading bytes) ≡ before ++ (track ∷ after)
    → AllAccepted before
    → build_check track ≡ suc n
    → output bytes ≡ refusal_text (suc n)

-- the counts of a track's legs with the limit's, both built
abbrev pub counts_with : List Float → List Float → Counts
counts_with limit track = counts_between (built_string (points track)) (built_string (points limit))

-- else the report: the line of each track is its own, whatever the others are
abbrev pub ReportElse : Type 0
ReportElse =
    (bytes : List ℕ) → well_formed (reading bytes) ≡ true → build_check (limit_of (reading bytes)) ≡ 0 → AllAccepted (tracks_of (reading bytes))
    → output bytes ≡ report_text (map (counts_with (limit_of (reading bytes))) (tracks_of (reading bytes)))

-- ---- how many

-- There are as many tracks as the last one's number says, so that each line has the number that its rows had; and no more than 1,000.
pub record TracksAsNumbered (bytes : List ℕ) : Type 0 where
  pub as_many : length (tracks_of (reading bytes)) ≡ (reading bytes).last
  pub at_most : (reading bytes).last ≤ most_tracks

abbrev pub AllAsNumbered : Type 0
AllAsNumbered = (bytes : List ℕ) → TracksAsNumbered bytes

-- So there are at most 1,000 times the pairs of two strings, and no count or sum of counts is more: a number of 64 bits holds 2,000 times as many, and more.
abbrev pub PairsBounded : Type 0
PairsBounded =
    (bytes : List ℕ) → build_check (limit_of (reading bytes)) ≡ 0 → AllAccepted (tracks_of (reading bytes))
    → sum_of_counts (sums_of (map (counts_with (limit_of (reading bytes))) (tracks_of (reading bytes)))) ≤ most_pairs_of_season

-- ---- track by track

-- Of every input: though the code keeps one track at a time, at most 1,025 points of it, and 2 in the place of a NaN, what it prints is what all tracks give as
-- they were read.
abbrev pub KeptOutput : Type 0
KeptOutput = (bytes : List ℕ) → printed_report (kept_answer (kept_fed kept_start bytes)) ≡ output bytes

-- ---- a track's number

-- what stands in the first column after some bytes
unfoldable pub column_from : Option Column → List ℕ → Option Column
column_from c [] = c
column_from none (byte ∷ bytes) = none
column_from (some c) (byte ∷ bytes) = column_from (column_after c byte) bytes

abbrev pub column_of : List ℕ → Option Column
column_of bytes = column_from (some C.Empty) bytes

-- the number as it is printed is read as that number
abbrev pub NumberAsPrinted : Type 0
NumberAsPrinted = (n : ℕ) → 1 ≤ n → n ≤ most_tracks → column_of (decimal n) ≡ some (C.Number n)

-- and no other bytes are
abbrev pub NumberOnlyAsPrinted : Type 0
NumberOnlyAsPrinted = (bytes : List ℕ) (n : ℕ) → column_of bytes ≡ some (C.Number n) → (bytes ≡ decimal n) × (1 ≤ n) × (n ≤ most_tracks)
