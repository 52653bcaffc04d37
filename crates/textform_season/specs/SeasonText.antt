-- The file of a season: the names line, the rows of the limit, then those of tracks 1, 2, 3 and so on; and the claims that it is well formed and read as
-- exactly that season, and that no other input is well formed. Definitions only. The proofs are `written_is_read` of `proofs/SeasonTexts.antt` and
-- `read_is_written` of `proofs/SeasonsRead.antt`.
use Rattle.std.specs.Prelude.{◌≡◌, true, List, [], ◌∷◌, ◌++◌, map, ℕ, ◌+◌, ◌≤◌, length, Float}
use Rattle.textform.specs.Text.{names_line}
use Rattle.textform.specs.Written.{Row, RowFits, row_rest, row_floats}
use Rattle.textform.specs.Print.{decimal}
use Rattle.textform_report.specs.Permille.{most_tracks}
use Rattle.textform_season.specs.Season.{letter_l, Season, well_formed, reading, limit_of, tracks_of}

-- ---- the file

-- the rows of the limit, or of a track, each with what stands in its first column
abbrev pub rows_text : List ℕ → List Row → List ℕ
rows_text name [] = []
rows_text name (r ∷ rows) = (name ++ row_rest r) ++ rows_text name rows

-- the rows of track n, and of those after it
abbrev pub tracks_text : ℕ → List (List Row) → List ℕ
tracks_text n [] = []
tracks_text n (track ∷ tracks) = rows_text (decimal n) track ++ tracks_text (n + 1) tracks

abbrev pub season_text : List Row → List (List Row) → List ℕ
season_text limit tracks = names_line ++ (rows_text (letter_l ∷ []) limit ++ tracks_text 1 tracks)

-- ---- and what it holds

abbrev pub rows_floats : List Row → List Float
rows_floats [] = []
rows_floats (r ∷ rows) = row_floats r ++ rows_floats rows

abbrev pub RowsFit : List Row → Type 0
RowsFit [] = Unit
RowsFit (r ∷ rows) = RowFits r × RowsFit rows

-- a track has a row at least: one without any would be a gap in the numbers
abbrev pub TracksFit : List (List Row) → Type 0
TracksFit [] = Unit
TracksFit (track ∷ tracks) = (1 ≤ length track) × RowsFit track × TracksFit tracks

-- what the file of a season is read as
pub record ReadAs (limit : List Row) (tracks : List (List Row)) (s : Season (List (List Float))) : Type 0 where
  pub well-formed : well_formed s ≡ true
  pub limit_read : limit_of s ≡ rows_floats limit
  pub tracks_read : tracks_of s ≡ map rows_floats tracks

-- every limit, with up to 1,000 tracks: the limit may be without a row, and there may be no track
abbrev pub WrittenIsRead : Type 0
WrittenIsRead =
    (limit : List Row) (tracks : List (List Row)) → RowsFit limit → TracksFit tracks → length tracks ≤ most_tracks
    → ReadAs limit tracks (reading (season_text limit tracks))

-- ---- and no other input is well formed

-- a season whose file these bytes are
pub record WrittenAs (bytes : List ℕ) : Type 0 where
  pub limit : List Row
  pub tracks : List (List Row)
  pub limit_fits : RowsFit limit
  pub tracks_fit : TracksFit tracks
  pub few : length tracks ≤ most_tracks
  pub is : bytes ≡ season_text limit tracks

-- every well-formed input is the file of a season, and so, by the claim above, read as that season
abbrev pub ReadIsWritten : Type 0
ReadIsWritten = (bytes : List ℕ) → well_formed (reading bytes) ≡ true → WrittenAs bytes
