-- Every well-formed input is the file of a season, as `specs/SeasonText.antt` has it: row after row is peeled off it. Assumes nothing.
use mathlib.Core.Path.{◌≡◌, refl, sym, ap, ◌∙◌, subst}
use mathlib.Core.Bool.{Bool, true, false, true≢false}
use mathlib.Core.List.{List, [], ◌∷◌, ◌++◌, append_assoc}
use mathlib.Core.Option.{Option, none, some}
use Prim.Native.Nat.{ℕ, zero, suc, ◌+◌, ◌≤◌, ◌<◌}
use native.Mathlib.Omega.{arith}
use lib.Dec.{eqb}
use lib.ListN.{length, length-append}
use lib.Ieee.{Float}
use borrow.Author.Tests.{eqb-true, ne_eqb}
use Rattle.arcstring_check.specs.Answer.{pick}
use Rattle.textform.specs.Text.{blank, row_start, names_line, in_turn, State, in_row}
use Rattle.textform.specs.Text as Text
use Rattle.textform.specs.Print.{decimal}
use Rattle.textform.specs.Written.{Row, RowFits, row_rest, row_floats}
use Rattle.textform.proofs.Written.{after_row}
use Rattle.textform.proofs.Peeled.{Begins, malformed_never_ends, names_peeled, row_peeled}
use Rattle.textform_report.specs.Permille.{most_tracks}
use Rattle.textform_season.specs.declared.inner.column.Column.{Column}
use Rattle.textform_season.specs.declared.inner.column.Column.TheVariants as C
use Rattle.textform_season.specs.Season.{letter_l, column_after, is_empty, malformed, in_column, on_in_row, well_formed, next_track, row_of, keep_track}
use Rattle.textform_season.specs.Season.{reading}
use Rattle.textform_season.specs.SeasonLaws.{column_from, column_of}
use Rattle.textform_season.specs.SeasonText.{rows_text, tracks_text, RowsFit, TracksFit, ReadIsWritten}
use Rattle.textform_season.proofs.Columns.{FilledOption, column_filled, number_only_as_printed, limit_only_as_letter}
use Rattle.textform_season.proofs.PlainReading.{Plain, between_rows}
use Rattle.textform_season.proofs.SeasonTexts.{step, fed, holding, column_step, blank_step, within_row}

-- ---- where the input may end

-- the bytes lead from there to where it may end
abbrev Ends : Plain → List ℕ → Type 0
Ends s bytes = well_formed (fed s bytes) ≡ true

at_row_start : (n : ℕ) (done : List (List Float)) (t : State) → well_formed (holding n done t) ≡ true → t.place ≡ row_start
at_row_start n done t ends = (between_rows (holding n done t) ends).0

never_ends : (s : Plain) (bytes : List ℕ) → Ends (malformed s) bytes → ⊥
never_ends s =
    malformed_never_ends step (holding s.last s.done) (within_row s.last s.done) well_formed (at_row_start s.last s.done) s.text

-- ---- the first column

-- The bytes begin with a name and a blank: from what stands in the first column the name leads to this column, and the rest on from there to where the
-- input may end.
record NameFirst (s : Plain) (bytes : List ℕ) : Type 0 where
  name : List ℕ
  column : Column
  rest : List ℕ
  stands : column_from (some s.column) name ≡ some column
  is : bytes ≡ name ++ (blank ∷ rest)
  ends : Ends (row_of keep_track column (in_column (some column) s)) rest

-- at the start of a row, where bytes are left, or in its first column
name_peeled : (bytes : List ℕ) (s : Plain) → s.text.place ≡ row_start → (is_empty s.column ≡ true → bytes ≡ [] → ⊥) → Ends s bytes → NameFirst s bytes
unfolding in_turn column_from
name_peeled [] s start more h = absurd (more (between_rows s h).1 refl)
name_peeled (byte ∷ bytes) s start more h =
    go (eqb byte blank) refl (column_after s.column byte) refl (column_filled s.column byte) (λ c. name_peeled bytes (in_column (some c) s) start)
  where
    go : (t : Bool) → eqb byte blank ≡ t → (o : Option Column) → column_after s.column byte ≡ o → FilledOption o
        → ((c : Column) → (is_empty c ≡ true → bytes ≡ [] → ⊥) → Ends (in_column (some c) s) bytes → NameFirst (in_column (some c) s) bytes)
        → NameFirst s (byte ∷ bytes)
    go true e o f filled rest =
        let is = eqb-true byte blank e in
        record {
          name = [];
          column = s.column;
          rest = bytes;
          stands = refl;
          is = ap (λ (b : ℕ). b ∷ bytes) is;
          ends = subst (λ (t : Plain). Ends t bytes) (ap (step s) is ∙ blank_step s start) h;
        }
    go false e none f filled rest = absurd (never_ends s bytes (subst (λ (t : Plain). Ends t bytes) (column_step s start byte e f) h))
    go false e (some c) f filled rest =
        let after = rest c (λ empty _. true≢false (sym empty ∙ filled)) (subst (λ (t : Plain). Ends t bytes) (column_step s start byte e f) h) in
        record {
          name = byte ∷ after.name;
          column = after.column;
          rest = after.rest;
          stands = ap (λ (o : Option Column). column_from o after.name) f ∙ after.stands;
          is = ap (λ (l : List ℕ). byte ∷ l) after.is;
          ends = after.ends;
        }

-- ---- a row

-- what stands in the first column of the rows of track n, and in those of the limit where n is 0
abbrev name_of : ℕ → List ℕ
name_of n = pick (eqb n 0) (letter_l ∷ []) (decimal n)

track_name : (n : ℕ) → 1 ≤ n → name_of n ≡ decimal n
track_name n h = ap (λ (t : Bool). pick t (letter_l ∷ []) (decimal n)) (ne_eqb n 0 (λ e. omega arith))

-- the bytes begin with a row of track n, or of the limit, and the rest leads on from after it to where the input may end
record RowFrom (n : ℕ) (bytes : List ℕ) : Type 0 where
  row : Row
  fits : RowFits row
  done : List (List Float)
  text : State
  start : text.place ≡ row_start
  begins : Begins bytes (name_of n ++ row_rest row) (Ends (holding n done text))

row_from : (n : ℕ) (done : List (List Float)) (t : State) (second : Bool) (bytes name rest : List ℕ) → bytes ≡ name ++ (blank ∷ rest) → name ≡ name_of n
    → Ends (holding n done (in_row second t)) rest → RowFrom n bytes
row_from n done t second bytes name rest is named h =
    let first = row_peeled step (holding n done) (within_row n done) well_formed (at_row_start n done) second t rest h in
    let whole = append_assoc (name_of n) (row_rest first.row) first.begins.rest in
    record {
      row = first.row;
      fits = first.fits;
      done = done;
      text = after_row second (row_floats first.row) t;
      start = refl;
      begins = record {
        rest = first.begins.rest;
        is = is ∙ (λ i. named i ++ first.begins.is i) ∙ sym whole;
        holds = first.begins.holds;
      };
    }

-- a row of the last track, or of the limit before the first; or one of the next track
data NextRow (last : ℕ) (bytes : List ℕ) : Type 0 where
  same : RowFrom last bytes → NextRow last bytes
  next : last + 1 ≤ most_tracks → RowFrom (last + 1) bytes → NextRow last bytes

module _ (last : ℕ) (done : List (List Float)) (t : State) (bytes name rest : List ℕ) (is : bytes ≡ name ++ (blank ∷ rest)) where
  abbrev before : Plain
  before = holding last done t

  limit_row_lem : (b : Bool) → eqb last 0 ≡ b → column_of name ≡ some C.Limit → Ends (pick b (on_in_row false before) (malformed before)) rest
      → NextRow last bytes
  limit_row_lem true e stands h =
      let named = limit_only_as_letter name stands ∙ sym (ap (λ (b : Bool). pick b (letter_l ∷ []) (decimal last)) e) in
      same (row_from last done t false bytes name rest is named h)
  limit_row_lem false e stands h = absurd (never_ends before rest h)

  track_row_lem : (n : ℕ) (b c : Bool) → eqb n last ≡ b → eqb n (last + 1) ≡ c → column_of name ≡ some (C.Number n)
      → Ends (pick b (on_in_row true before) (pick c (on_in_row true (next_track keep_track before)) (malformed before))) rest → NextRow last bytes
  track_row_lem n true c e f stands h =
      let is_last = eqb-true n last e in
      let printed = number_only_as_printed name n stands in
      let Some-number = printed.1 in
      let named = printed.0 ∙ ap decimal is_last ∙ sym (track_name last (omega arith)) in
      same (row_from last done t true bytes name rest is named h)
  track_row_lem n false true e f stands h =
      let is-next = eqb-true n (last + 1) f in
      let printed = number_only_as_printed name n stands in
      let few = printed.2 in
      let named = printed.0 ∙ ap decimal is-next ∙ sym (track_name (last + 1) (omega arith)) in
      let after = next_track keep_track before in
      next (omega arith) (row_from (last + 1) after.done after.text true bytes name rest is named h)
  track_row_lem n false false e f stands h = absurd (never_ends before rest h)

  by_column : (c : Column) → column_of name ≡ some c → Ends (row_of keep_track c (in_column (some c) before)) rest → NextRow last bytes
  by_column C.Empty stands h = absurd (never_ends before rest h)
  by_column C.Limit stands h = limit_row_lem (eqb last 0) refl stands h
  by_column (C.Number n) stands h = track_row_lem n (eqb n last) (eqb n (last + 1)) refl refl stands h

next_row : (last : ℕ) (done : List (List Float)) (t : State) (byte : ℕ) (bytes : List ℕ) → t.place ≡ row_start → Ends (holding last done t) (byte ∷ bytes)
    → NextRow last (byte ∷ bytes)
next_row last done t byte bytes start h =
    let first = name_peeled (byte ∷ bytes) (holding last done t) start (λ _ e. let z : ◌≡◌ {A = ℕ} 0 1 = cc in omega arith) h in
    by_column last done t (byte ∷ bytes) first.name first.rest first.is first.column first.stands first.ends

-- ---- the rows that are left

-- the bytes are rows of the last track, or of the limit, and then those of the tracks after it
record RowsLeft (last : ℕ) (bytes : List ℕ) : Type 0 where
  rows : List Row
  tracks : List (List Row)
  rows_fit : RowsFit rows
  tracks_fit : TracksFit tracks
  few : last + length tracks ≤ most_tracks
  is : bytes ≡ rows_text (name_of last) rows ++ tracks_text (last + 1) tracks

none_left : (last : ℕ) → last ≤ most_tracks → RowsLeft last []
none_left last few = record { rows = []; tracks = []; rows_fit = tt; tracks_fit = tt; few = omega arith; is = refl }

-- the first row of track n, or of the limit, and what is left after it
module _ (n : ℕ) (bytes : List ℕ) (first : RowFrom n bytes) (left : RowsLeft n first.begins.rest) where
  with_first : bytes ≡ rows_text (name_of n) (first.row ∷ left.rows) ++ tracks_text (n + 1) left.tracks
  with_first =
      let row = name_of n ++ row_rest first.row in
      first.begins.is
      ∙ ap (λ (l : List ℕ). row ++ l) left.is
      ∙ sym (append_assoc row (rows_text (name_of n) left.rows) (tracks_text (n + 1) left.tracks))

  -- of the last track, which goes on
  goes_on : RowsLeft n bytes
  goes_on = record {
    rows = first.row ∷ left.rows;
    tracks = left.tracks;
    rows_fit = (first.fits, left.rows_fit);
    tracks_fit = left.tracks_fit;
    few = left.few;
    is = with_first;
  }

  -- of the next track, and the last one has no more
  begins_next : (last : ℕ) → n ≡ last + 1 → RowsLeft last bytes
  begins_next last is-next =
      let few = left.few in
      let named = track_name n (omega arith) in
      record {
        rows = [];
        tracks = (first.row ∷ left.rows) ∷ left.tracks;
        rows_fit = tt;
        tracks_fit = (omega arith, (first.fits, left.rows_fit), left.tracks_fit);
        few = omega arith;
        is = with_first
            ∙ ap (λ (name : List ℕ). rows_text name (first.row ∷ left.rows) ++ tracks_text (n + 1) left.tracks) named
            ∙ ap (λ (k : ℕ). tracks_text k ((first.row ∷ left.rows) ∷ left.tracks)) is-next;
      }

shorter : (n : ℕ) (bytes : List ℕ) (first : RowFrom n bytes) → length first.begins.rest < length bytes
shorter n bytes first =
    let row = row_rest first.row in
    omega (arith, ap length first.begins.is, length-append (name_of n ++ row) first.begins.rest, length-append (name_of n) row)

-- from the start of a row; `most` bounds the bytes that are left, and each row leaves fewer
rows_left : (most : ℕ) (bytes : List ℕ) (last : ℕ) (done : List (List Float)) (t : State) → length bytes ≤ most → t.place ≡ row_start → last ≤ most_tracks
    → Ends (holding last done t) bytes → RowsLeft last bytes
rows_left zero [] last done t short start few h = none_left last few
rows_left zero (byte ∷ bytes) last done t short start few h = absurd (omega arith)
rows_left (suc most) [] last done t short start few h = none_left last few
rows_left (suc most) (byte ∷ bytes) last done t short start few h = go (next_row last done t byte bytes start h) (rows_left most)
  where
    go : NextRow last (byte ∷ bytes)
        → ((rest : List ℕ) (n : ℕ) (done : List (List Float)) (t : State) → length rest ≤ most → t.place ≡ row_start → n ≤ most_tracks
        → Ends (holding n done t) rest → RowsLeft n rest)
        → RowsLeft last (byte ∷ bytes)
    go (same first) after =
        let less = shorter last (byte ∷ bytes) first in
        let left = after first.begins.rest last first.done first.text (omega arith) first.start few first.begins.holds in
        goes_on last (byte ∷ bytes) first left
    go (next few' first) after =
        let less = shorter (last + 1) (byte ∷ bytes) first in
        let left = after first.begins.rest (last + 1) first.done first.text (omega arith) first.start few' first.begins.holds in
        begins_next (last + 1) (byte ∷ bytes) first left last refl

-- ---- the whole input

pub read_is_written : ReadIsWritten
unfolding reading
read_is_written bytes h =
    let names = names_peeled step (holding 0 []) (within_row 0 []) well_formed (at_row_start 0 []) bytes h in
    let left = rows_left (length names.rest) names.rest 0 [] (after_row false [] Text.start) (omega arith) refl (omega arith) names.holds in
    record {
      limit = left.rows;
      tracks = left.tracks;
      limit_fits = left.rows_fit;
      tracks_fit = left.tracks_fit;
      few = omega (arith, left.few);
      is = names.is ∙ ap (λ (l : List ℕ). names_line ++ l) left.is;
    }
