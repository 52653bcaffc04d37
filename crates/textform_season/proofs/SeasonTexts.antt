-- A season written out is well formed, and read as exactly that season, as `specs/SeasonText.antt` has it. Assumes nothing.
use mathlib.Core.Path.{◌≡◌, refl, sym, ap, ◌∙◌, subst}
use mathlib.Core.Bool.{Bool, true, false, ◌&&◌}
use mathlib.Core.List.{List, [], ◌∷◌, ◌++◌, map, append_assoc, append-nil}
use mathlib.Core.Option.{Option, none, some}
use Prim.Native.Nat.{ℕ, ◌+◌, ◌≤◌}
use native.Mathlib.Omega.{arith}
use lib.Dec.{eqb}
use lib.ListN.{length}
use lib.Ieee.{Float}
use borrow.Author.Tests.{eq-eqb, ne_eqb}
use Rattle.arcstring_check.specs.Answer.{pick}
use Rattle.textform.specs.Text.{blank, row_start, names_line, float_part, row_part, part_at, place_after, hex_digit, in_turn, State, append, without_second}
use Rattle.textform.specs.Text as Text
use Rattle.textform.specs.Print.{decimal}
use Rattle.textform.specs.Written.{Row, RowFits, row_rest, row_floats}
use Rattle.textform.proofs.Turns.{fed_then}
use Rattle.textform.proofs.Written.{after_row, row_fed}
use Rattle.textform_report.specs.Permille.{most_tracks}
use Rattle.textform_season.specs.declared.inner.column.Column.{Column}
use Rattle.textform_season.specs.declared.inner.column.Column.TheVariants as C
use Rattle.textform_season.specs.Season.{letter_l, column_after, is_empty, begun, malformed, in_column, on_in_row, well_formed, in_text, next_track, row_of}
use Rattle.textform_season.specs.Season.{step_with, fed_with, keep_track, reading, tracks_of}
use Rattle.textform_season.specs.SeasonLaws.{column_from, column_of}
use Rattle.textform_season.specs.SeasonText.{rows_text, tracks_text, season_text, rows_floats, RowsFit, TracksFit, WrittenIsRead}
use Rattle.textform_season.proofs.PlainReading.{Plain}
use Rattle.textform_season.proofs.Columns.{none_stays, none_is_no_column, number_as_printed}

abbrev pub step : Plain → ℕ → Plain
step = step_with keep_track append

abbrev pub fed : Plain → List ℕ → Plain
fed = fed_with keep_track append

-- with nothing in the first column: before a row, or past its name
abbrev pub holding : ℕ → List (List Float) → State → Plain
holding last done t = record { text = t; column = C.Empty; last = last; done = done }

-- ---- the first column

no_blank : (c : Column) → column_after c blank ≡ none
unfolding column_after hex_digit
no_blank C.Empty = refl
no_blank C.Limit = refl
no_blank (C.Number n) = refl

module _ (s : Plain) (start : s.text.place ≡ row_start) where
  -- a byte other than a blank
  pub column_step : (byte : ℕ) {c : Option Column} → eqb byte blank ≡ false → column_after s.column byte ≡ c → step s byte ≡ in_column c s
  unfolding step_with
  column_step byte other h =
      let here = eq-eqb s.text.place row_start start in
      λ i. pick (here i) (pick (other i) (row_of keep_track s.column s) (in_column (h i) s)) (in_text append s byte)

  name_step : (byte : ℕ) (c : Column) → column_after s.column byte ≡ some c → step s byte ≡ in_column (some c) s
  name_step byte c h = column_step byte (ne_eqb byte blank (λ e. none_is_no_column (sym (no_blank s.column) ∙ ap (column_after s.column) (sym e) ∙ h))) h

  pub blank_step : step s blank ≡ row_of keep_track s.column s
  unfolding step_with
  blank_step = ap (λ (t : Bool). pick t (row_of keep_track s.column s) (in_text append s blank)) (eq-eqb s.text.place row_start start)

-- what stands in the first column is read there, and nothing else changes
name_fed : (name : List ℕ) (s : Plain) (c : Column) → s.text.place ≡ row_start → column_from (some s.column) name ≡ some c
    → fed s name ≡ in_column (some c) s
unfolding in_turn column_from
name_fed [] s c start h = let e : s.column ≡ c = cc in ap (λ (c : Column). in_column (some c) s) e
name_fed (byte ∷ name) s c start h = go (column_after s.column byte) refl h (λ d. name_fed name (in_column (some d) s) c start)
  where
    go : (o : Option Column) → column_after s.column byte ≡ o → column_from o name ≡ some c
        → ((d : Column) → column_from (some d) name ≡ some c → fed (in_column (some d) s) name ≡ in_column (some c) s)
        → fed (step s byte) name ≡ in_column (some c) s
    go none e h rest = absurd (none_is_no_column (sym (none_stays name) ∙ h))
    go (some d) e h rest = ap (λ (t : Plain). fed t name) (name_step s start byte d e) ∙ rest d h

-- ---- the rows of the limit, or of a track

pub within_row : (last : ℕ) (done : List (List Float)) (t : State) (byte : ℕ) → (t.place ≡ row_start → ⊥)
    → step (holding last done t) byte ≡ holding last done (Text.step t byte)
unfolding step_with
within_row last done t byte past =
    let s = holding last done t in
    ap (λ (b : Bool). pick b (pick (eqb byte blank) (malformed s) (in_column (column_after C.Empty byte) s)) (in_text append s byte))
    (ne_eqb t.place row_start past)

rows_joined : (second : Bool) (xs ys : List Float) (t : State) → after_row second ys (after_row second xs t) ≡ after_row second (xs ++ ys) t
rows_joined true xs ys t = ap (λ (l : List Float). record { place = row_start; second = true; word = 0; a = t.a; b = l }) (append_assoc t.b xs ys)
rows_joined false xs ys t = ap (λ (l : List Float). record { place = row_start; second = false; word = 0; a = l; b = t.b }) (append_assoc t.a xs ys)

-- with this in their first column
module _ (name : List ℕ) (c : Column) (stands : column_of name ≡ some c) where
  -- a row, from where the blank after the name leads into it
  row_read : (last : ℕ) (done : List (List Float)) (t : State) (second : Bool) (q : Plain) (r : Row) → t.place ≡ row_start → RowFits r
      → row_of keep_track c (in_column (some c) (holding last done t)) ≡ on_in_row second q
      → fed (holding last done t) (name ++ row_rest r) ≡ holding q.last q.done (after_row second (row_floats r) q.text)
  row_read last done t second q r start fits h =
      let named = in_column (some c) (holding last done t) in
      fed_then step (holding last done t) name (row_rest r) (name_fed name (holding last done t) c start stands)
      (row_fed step (holding q.last q.done) (within_row q.last q.done) named second r q.text fits (blank_step named start ∙ h))

  -- rows that go on where the last one was
  module _ (last : ℕ) (done : List (List Float)) (second : Bool)
      (on : (t : State) → row_of keep_track c (in_column (some c) (holding last done t)) ≡ on_in_row second (holding last done t)) where
    rows_read : (rows : List Row) (xs : List Float) (t : State) → RowsFit rows
        → fed (holding last done (after_row second xs t)) (rows_text name rows) ≡ holding last done (after_row second (xs ++ rows_floats rows) t)
    unfolding in_turn
    rows_read [] xs t fits = ap (λ (l : List Float). holding last done (after_row second l t)) (sym (append-nil xs))
    rows_read (r ∷ rows) xs t fits =
        let s = after_row second xs t in
        let row = row_read last done s second (holding last done s) r refl fits.0 (on s) ∙ ap (holding last done) (rows_joined second xs (row_floats r) t) in
        let rest = rows_read rows (xs ++ row_floats r) t fits.1 in
        fed_then step (holding last done s) (name ++ row_rest r) (rows_text name rows) row rest
        ∙ ap (λ (l : List Float). holding last done (after_row second l t)) (append_assoc xs (row_floats r) (rows_floats rows))

-- ---- the limit

limit_stands : column_of (letter_l ∷ []) ≡ some C.Limit
unfolding column_from column_after
limit_stands = refl

limit_fed : (limit : List Row) → RowsFit limit
    → fed (holding 0 [] (after_row false [] Text.start)) (rows_text (letter_l ∷ []) limit) ≡ holding 0 [] (after_row false (rows_floats limit) Text.start)
limit_fed limit fits = rows_read (letter_l ∷ []) C.Limit limit_stands 0 [] false (λ t. refl) limit [] Text.start fits

-- ---- the tracks

-- the number of the last track goes on with it, and the number after it begins the next
module _ (last : ℕ) (done : List (List Float)) (t : State) where
  same_track : row_of keep_track (C.Number last) (in_column (some (C.Number last)) (holding last done t)) ≡ on_in_row true (holding last done t)
  same_track =
      let s = in_column (some (C.Number last)) (holding last done t) in
      ap (λ (b : Bool). pick b (on_in_row true s) (pick (eqb last (last + 1)) (on_in_row true (next_track keep_track s)) (malformed s))) (eq-eqb last last refl)

  next_track_lem : row_of keep_track (C.Number (last + 1)) (in_column (some (C.Number (last + 1))) (holding last done t))
      ≡ on_in_row true (next_track keep_track (holding last done t))
  next_track_lem =
      let s = in_column (some (C.Number (last + 1))) (holding last done t) in
      let other = ne_eqb (last + 1) last (λ e. omega arith) in
      let next = eq-eqb (last + 1) (last + 1) refl in
      λ i. pick (other i) (on_in_row true s) (pick (next i) (on_in_row true (next_track keep_track s)) (malformed s))

-- the rows of the next track
track_fed : (last : ℕ) (done : List (List Float)) (t : State) (r : Row) (rows : List Row)
    → t.place ≡ row_start → RowsFit (r ∷ rows) → last + 1 ≤ most_tracks
    → fed (holding last done t) (rows_text (decimal (last + 1)) (r ∷ rows))
    ≡ holding (last + 1) (tracks_of (holding last done t)) (after_row true (rows_floats (r ∷ rows)) (without_second t))
track_fed last done t r rows start fits few =
    let name = decimal (last + 1) in
    let column = C.Number (last + 1) in
    let stands = number_as_printed (last + 1) (omega arith) few in
    let before = tracks_of (holding last done t) in
    let row = row_read name column stands last done t true (next_track keep_track (holding last done t)) r start fits.0 (next_track_lem last done t) in
    let rest = rows_read name column stands (last + 1) before true (same_track (last + 1) before) rows (row_floats r) (without_second t) fits.1 in
    fed_then step (holding last done t) (name ++ row_rest r) (rows_text name rows) row rest

-- where the file may end, with these floats of the limit and of the tracks
record Ends (s : Plain) (limit : List Float) (tracks : List (List Float)) : Type 0 where
  start : s.text.place ≡ row_start
  column : s.column ≡ C.Empty
  limit_is : s.text.a ≡ limit
  tracks_are : tracks_of s ≡ tracks

-- the last track comes after those that are done, and before what is yet to be read
track_between : (last : ℕ) (done : List (List Float)) (xs : List Float) (more : List (List Float)) (t : State)
    → tracks_of (holding (last + 1) done (after_row true xs (without_second t))) ++ more ≡ done ++ (xs ∷ more)
track_between last done xs more t =
    ap (λ (b : Bool). pick b done (done ++ (xs ∷ [])) ++ more) (ne_eqb (last + 1) 0 (λ e. omega arith)) ∙ append_assoc done (xs ∷ []) more

tracks_fed : (tracks : List (List Row)) (last : ℕ) (done : List (List Float)) (t : State)
    → t.place ≡ row_start → TracksFit tracks → last + length tracks ≤ most_tracks
    → Ends (fed (holding last done t) (tracks_text (last + 1) tracks)) t.a (tracks_of (holding last done t) ++ map rows_floats tracks)
unfolding in_turn
tracks_fed [] last done t start fits few =
    record { start = start; column = refl; limit_is = refl; tracks_are = sym (append-nil (tracks_of (holding last done t))) }
tracks_fed ([] ∷ tracks) last done t start fits few = let some-row = fits.0 in absurd (omega arith)
tracks_fed ((r ∷ rows) ∷ tracks) last done t start fits few =
    let xs = rows_floats (r ∷ rows) in
    let before = tracks_of (holding last done t) in
    let rest = tracks_fed tracks (last + 1) before (after_row true xs (without_second t)) refl fits.2 (omega arith) in
    let this = track_fed last done t r rows start fits.1 (omega arith) in
    let all = track_between last before xs (map rows_floats tracks) t in
    let whole = fed_then step (holding last done t) (rows_text (decimal (last + 1)) (r ∷ rows)) (tracks_text (last + 1 + 1) tracks) this refl in
    subst (λ (q : Plain). Ends q t.a (before ++ (xs ∷ map rows_floats tracks))) (sym whole)
    (record { start = rest.start; column = rest.column; limit_is = rest.limit_is; tracks_are = rest.tracks_are ∙ all })

-- ---- the whole file

names_fed : fed (begun []) names_line ≡ holding 0 [] (after_row false [] Text.start)
unfolding in_turn step_with Text.step_with part_at row_part float_part place_after
names_fed = refl

season_fed : (limit : List Row) (tracks : List (List Row)) → RowsFit limit → TracksFit tracks → length tracks ≤ most_tracks
    → Ends (reading (season_text limit tracks)) (rows_floats limit) (map rows_floats tracks)
unfolding reading
season_fed limit tracks fits tracks_fit few =
    let rows = rows_text (letter_l ∷ []) limit in
    let rest = tracks_fed tracks 0 [] (after_row false (rows_floats limit) Text.start) refl tracks_fit (omega arith) in
    let after-names = fed_then step (holding 0 [] (after_row false [] Text.start)) rows (tracks_text 1 tracks) (limit_fed limit fits) refl in
    let whole = fed_then step (begun []) names_line (rows ++ tracks_text 1 tracks) names_fed after-names in
    subst (λ (q : Plain). Ends q (rows_floats limit) (map rows_floats tracks)) (sym whole) rest

pub written_is_read : WrittenIsRead
unfolding well_formed Text.well_formed
written_is_read limit tracks fits tracks_fit few =
    let ends = season_fed limit tracks fits tracks_fit few in
    record {
      well-formed = λ i. eq-eqb _ _ ends.start i && is_empty (ends.column i);
      limit_read = ends.limit_is;
      tracks_read = ends.tracks_are;
    }
