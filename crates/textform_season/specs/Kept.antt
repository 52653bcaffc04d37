-- The reading as the code keeps it: at most 1,025 points of the limit and of one track, and of the tracks before that one their lines and their sums. For the
-- contracts of inner functions. Definitions only.
use Rattle.std.specs.Prelude as Std
use Rattle.std.specs.Prelude.{◌≡◌, List, [], ℕ, ◌+◌, ◌-◌, ◌*◌, ◌≤◌, take, Float, Result, Ok, Err, Some, None}
use Rattle.std.specs.Coded.{×_prop, Unit-prop, le_prop}
use Rattle.arcstring_check.specs.Answer.{Answer, refused, answered, unless_refused, map_answer, and_then, pick, refusal_number}
use Rattle.arcstring_check.specs.Check.{build_check}
use Rattle.same_crossings.specs.CountLaws.{sum_of_counts}
use Rattle.textform.specs.Kept.{keep}
use Rattle.textform.specs.Print.{refusal_text}
use Rattle.textform_count.specs.Count.{count_built}
use Rattle.arcstring_visit.specs.Visit.{most_pairs}
use Rattle.textform_report.specs.Permille.{most_tracks}
use Rattle.textform_report.specs.Report.{line_room, heading_length, Report, report_for, with_track, finished}
use Rattle.textform_season.specs.declared.inner.column.Column.{Column}
use Rattle.textform_season.specs.declared.inner.column.Column.TheVariants as C
use Rattle.textform_season.specs.declared.inner.track.Lines.{Lines}
use Rattle.textform_season.specs.Season.{Season, begun, well_formed, all_done, fed_with}
use Rattle.arcstring_check.specs.declared.check.Refusal.{Refusal}

-- room for the longest report: a heading of 39 bytes, and at most 126 for each of 1,001 lines
abbrev pub report_room : ℕ
report_room = 131072

-- ---- a track that has ended

-- its line and its counts, unless a track before it was refused, or it is
abbrev pub end_track : List Float → List Float → ℕ → Answer Report → Answer Report
end_track limit track n done = and_then done (λ (r : Report). map_answer (with_track n r) (count_built track limit))

-- what the code holds of tracks that are counted: their lines stand at the start of a list
abbrev pub held_lines : Lines → List ℕ → Report
held_lines l out = record { text = take l.at out; sums = l.sums }

abbrev pub held_tracks : Result Lines Refusal → List ℕ → Answer Report
held_tracks (Err e) out = refused (refusal_number e)
held_tracks (Ok l) out = answered (held_lines l out)

-- no more text, and no more pairs, than k tracks have
pub record LinesSound (l : Lines) (k : ℕ) : Type 0 where
  pub room : l.at ≤ heading_length + line_room * k
  pub pairs : sum_of_counts l.sums ≤ most_pairs * k

abbrev pub TracksSound : Result Lines Refusal → ℕ → Type 0
TracksSound (Err e) k = Unit
TracksSound (Ok l) k = LinesSound l k

-- ---- the whole reading

abbrev pub ColumnSound : Column → Type 0
ColumnSound C.Empty = Unit
ColumnSound C.Limit = Unit
ColumnSound (C.Number n) = (1 ≤ n) × (n ≤ most_tracks)

-- two proofs of either are the same, as the ghost fields of a reading ask
pub ColumnSound_prop : (c : Column) → IsProp (ColumnSound c)
ColumnSound_prop C.Empty = Unit-prop
ColumnSound_prop C.Limit = Unit-prop
ColumnSound_prop (C.Number n) = ×_prop le_prop le_prop

pub TracksSound_prop : (t : Result Lines Refusal) (k : ℕ) → IsProp (TracksSound t k)
TracksSound_prop (Err e) k = Unit-prop
TracksSound_prop (Ok l) k = λ p q i. record { room = le_prop p.room q.room i; pairs = le_prop p.pairs q.pairs i }

abbrev pub NextSound : Std.Option Column → Type 0
NextSound (Some c) = ColumnSound c
NextSound None = Unit

abbrev pub kept_start : Season (Answer Report)
kept_start = begun (answered (report_for []))

abbrev pub kept_fed : Season (Answer Report) → List ℕ → Season (Answer Report)
kept_fed = fed_with end_track keep

-- ---- what is printed

abbrev pub printed_report : Answer Report → List ℕ
printed_report (refused n) = refusal_text n
printed_report (answered r) = finished r

unfoldable pub kept_answer : Season (Answer Report) → Answer Report
kept_answer s = pick (well_formed s) (unless_refused (build_check s.text.a) (all_done end_track s)) (refused 8)
