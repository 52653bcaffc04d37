-- The text form of a season, read byte by byte: that of two strings, with another first column. `L` stands there for the limit, in the place of A; or a track's
-- number from 1 to 1,000, decimal and without a leading zero, in the place of B. The rows of the limit come first, then those of tracks 1, 2, 3 and so on, the
-- rows of each together. Definitions only.
use Rattle.std.specs.Prelude.{Bool, true, false, ◌&&◌, List, [], ◌∷◌, ◌++◌, ℕ, ◌+◌, ◌*◌, ltb, eqb, Float}
use Rattle.std.proofs.Math.Option.{Option, none, some}
use Rattle.arcstring_check.specs.Answer.{pick}
use Rattle.textform.specs.Text.{blank, row_start, hex_digit, in_turn, State, in_row}
use Rattle.textform.specs.Text as Text
use Rattle.textform_report.specs.Permille.{most_tracks}
use Rattle.textform_season.specs.declared.inner.column.Column.{Column}
use Rattle.textform_season.specs.declared.inner.column.Column.TheVariants as C

-- ---- the first column

abbrev pub letter_l : ℕ
letter_l = 76

-- One digit more of a track's number, n so far and 0 before the first: 0 to 9, and of the hexadecimal digits none that is a letter. A 0 that comes first makes
-- no number, and none is over 1,000.
unfoldable pub with_digit : ℕ → ℕ → Option Column
with_digit n d = pick (ltb d 10) (pick (eqb (10 * n + d) 0) none (pick (ltb most_tracks (10 * n + d)) none (some (C.Number (10 * n + d))))) none

abbrev pub digit_after : ℕ → Option ℕ → Option Column
digit_after n none = none
digit_after n (some d) = with_digit n d

-- what stands there after a byte other than a blank; none where it is nothing that may stand there
unfoldable pub column_after : Column → ℕ → Option Column
column_after C.Empty byte = pick (eqb byte letter_l) (some C.Limit) (digit_after 0 (hex_digit byte))
column_after C.Limit byte = none
column_after (C.Number n) byte = digit_after n (hex_digit byte)

abbrev pub is_empty : Column → Bool
is_empty C.Empty = true
is_empty C.Limit = false
is_empty (C.Number n) = false

-- ---- the machine

-- Where the reading stands: as of two strings, the limit's floats in the place of A's and the last track's in the place of B's; what has been read of the first
-- column, where a row begins; the number of the last track, 0 before the first; and what is kept of the tracks before it.
pub record Season (D : Type 0) : Type 0 where
  pub text : State
  pub column : Column
  pub last : ℕ
  pub done : D

module _ {D : Type 0} where
  abbrev pub begun : D → Season D
  begun d = record { text = Text.start; column = C.Empty; last = 0; done = d }

  abbrev pub malformed : Season D → Season D
  malformed s = record { text = Text.malformed s.text; column = C.Empty; last = s.last; done = s.done }

  abbrev pub in_column : Option Column → Season D → Season D
  in_column none s = malformed s
  in_column (some c) s = record { text = s.text; column = c; last = s.last; done = s.done }

  -- on in a row of the limit, or of the last track
  abbrev pub on_in_row : Bool → Season D → Season D
  on_in_row second s = record { text = in_row second s.text; column = C.Empty; last = s.last; done = s.done }

  -- a row of the limit: before the first track
  abbrev pub limit_row : Season D → Season D
  limit_row s = pick (eqb s.last 0) (on_in_row false s) (malformed s)

  -- The input is well formed where it ends after the names line or after a row.
  unfoldable pub well_formed : Season D → Bool
  well_formed s = Text.well_formed s.text && is_empty s.column

  -- a byte of a row after its first column, or of the names line; how a float is added to its list is an argument, as it is of two strings
  abbrev pub in_text : (Float → List Float → List Float) → Season D → ℕ → Season D
  in_text add s byte = record { text = Text.step_with add s.text byte; column = s.column; last = s.last; done = s.done }

  -- How a track that has ended is kept is an argument too: given the limit, the track, its number, and what is kept of those before it.
  module _ (end : List Float → List Float → ℕ → D → D) where
    -- all tracks: the last one too, where there is one
    abbrev pub all_done : Season D → D
    all_done s = pick (eqb s.last 0) s.done (end s.text.a s.text.b s.last s.done)

    -- the next track begins
    abbrev pub next_track : Season D → Season D
    next_track s = record { text = Text.without_second s.text; column = C.Empty; last = s.last + 1; done = all_done s }

    -- a row of track n: of the last one, or the first row of the next
    abbrev pub track_row : ℕ → Season D → Season D
    track_row n s = pick (eqb n s.last) (on_in_row true s) (pick (eqb n (s.last + 1)) (on_in_row true (next_track s)) (malformed s))

    -- the blank after the first column
    abbrev pub row_of : Column → Season D → Season D
    row_of C.Empty s = malformed s
    row_of C.Limit s = limit_row s
    row_of (C.Number n) s = track_row n s

    module _ (add : Float → List Float → List Float) where
      unfoldable pub step_with : Season D → ℕ → Season D
      step_with s byte =
          pick (eqb s.text.place row_start) (pick (eqb byte blank) (row_of s.column s) (in_column (column_after s.column byte) s)) (in_text add s byte)

      abbrev pub fed_with : Season D → List ℕ → Season D
      fed_with = in_turn step_with

-- every track with all its floats
abbrev pub keep_track : List Float → List Float → ℕ → List (List Float) → List (List Float)
keep_track limit track n tracks = tracks ++ (track ∷ [])

-- the input read from its first byte to its last
unfoldable pub reading : List ℕ → Season (List (List Float))
reading bytes = fed_with keep_track Text.append (begun []) bytes

-- the floats of the limit, and of each track
abbrev pub limit_of : Season (List (List Float)) → List Float
limit_of s = s.text.a

abbrev pub tracks_of : Season (List (List Float)) → List (List Float)
tracks_of s = all_done keep_track s
