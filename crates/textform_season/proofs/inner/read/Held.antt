-- What is held after a byte: with another row and another first column, with one track more, and by the tests of the code. Assumes nothing.
use Rattle.std.specs.Prelude.{Result}
use mathlib.Core.Path.{◌≡◌, refl, sym, ap, ◌∙◌, subst}
use mathlib.Core.Bool.{Bool, true, false}
use mathlib.Core.List.{List}
use Prim.Native.Nat.{ℕ, ◌+◌, ◌-◌, ◌≤◌, ◌<◌}
use native.Mathlib.Omega.{arith}
use lib.ListN.{take}
use lib.Dec.{eqb}
use lib.Ieee.{Float}
use borrow.Author.Tests.{eq-eqb, ne_eqb}
use Rattle.arcstring_check.specs.Answer.{Answer, pick}
use Rattle.textform.specs.declared.inner.reader.Reader.{Reader}
use Rattle.textform.specs.Text.{blank, row_start, State, without_second}
use Rattle.textform.specs.Text as Plain
use Rattle.textform.specs.Kept.{keep}
use Rattle.textform.specs.Held.{held_state}
use Rattle.textform.specs.Held as Text
use Rattle.textform_report.specs.Report.{Report}
use Rattle.textform_season.specs.declared.inner.column.Column.{Column}
use Rattle.textform_season.specs.declared.inner.column.Column.TheVariants as C
use Rattle.textform_season.specs.declared.inner.reading.Reading.{Reading}
use Rattle.textform_season.specs.Season.{Season, malformed, in_column, on_in_row, limit_row, all_done, next_track, track_row, row_of, in_text, column_after}
use Rattle.textform_season.specs.Season.{step_with}
use Rattle.textform_season.specs.Kept.{end_track, held_tracks, TracksSound}
use Rattle.textform_season.specs.Held.{held_season}
use Rattle.arcstring_check.specs.declared.check.Refusal.{Refusal}
use Rattle.textform_season.specs.declared.inner.track.Lines.{Lines}

abbrev Held : Type 0
Held = Season (Answer Report)

-- ---- the row and the first column

module _ (r : Reading) where
  -- a change of the row, with another first column
  pub row_becomes : (change : State → State) (row : Reader) (column : Column) → Text.Becomes r.row change row
      → (limit track : List Float) (out : List ℕ)
      → ◌≡◌ {A = Held} (record { text = held_state row limit track; column = column; last = r.last; done = held_tracks r.tracks out })
      (record { text = change (held_state r.row limit track); column = column; last = r.last; done = held_tracks r.tracks out })
  row_becomes change row column moved limit track out i =
      record { text = moved limit track i; column = column; last = r.last; done = held_tracks r.tracks out }

  -- the row, whose lists may have changed
  pub text_held : (row : Reader) (byte : ℕ) (limit track limit' track' : List Float)
      → held_state row limit' track' ≡ Plain.step_with keep (held_state r.row limit track) byte
      → (out : List ℕ)
      → record { text = held_state row limit' track'; column = r.column; last = r.last; done = held_tracks r.tracks out }
      ≡ in_text keep (held_season r limit track out) byte
  text_held row byte limit track limit' track' stepped out i =
      record { text = stepped i; column = r.column; last = r.last; done = held_tracks r.tracks out }

-- ---- the tracks

module _ (r : Reading) (limit track : List Float) (out : List ℕ) where
  -- none has begun
  pub none_done : r.last ≡ 0 → TracksSound r.tracks (r.last - 1)
      → (held_tracks r.tracks out ≡ all_done end_track (held_season r limit track out)) × TracksSound r.tracks r.last
  none_done none sound = (
    sym (ap (λ (b : Bool). pick b (held_tracks r.tracks out) with_last) (eq-eqb r.last 0 none)),
    subst (TracksSound r.tracks) same sound,
  )
    where
      with_last : Answer Report
      with_last = end_track (take r.row.a limit) (take r.row.b track) r.last (held_tracks r.tracks out)

      same : r.last - 1 ≡ r.last
      same = omega arith

  -- the last one too
  pub last_done : (t : Answer Report) → (r.last ≡ 0 → ⊥)
      → t ≡ end_track (take r.row.a limit) (take r.row.b track) r.last (held_tracks r.tracks out)
      → t ≡ all_done end_track (held_season r limit track out)
  last_done t some-track e =
      e ∙ sym (ap (λ (b : Bool). pick b (held_tracks r.tracks out) with_last) (ne_eqb r.last 0 some-track))
    where
      with_last : Answer Report
      with_last = end_track (take r.row.a limit) (take r.row.b track) r.last (held_tracks r.tracks out)

  -- the next one begins
  pub next-held : (tracks : Result Lines Refusal) (row : Reader) (out' : List ℕ)
      → held_tracks tracks out' ≡ all_done end_track (held_season r limit track out) → Text.Becomes r.row without_second row
      → record { text = held_state row limit track; column = C.Empty; last = r.last + 1; done = held_tracks tracks out' }
      ≡ next_track end_track (held_season r limit track out)
  next-held tracks row out' done moved i = record { text = moved limit track i; column = C.Empty; last = r.last + 1; done = done i }

-- what is sound of the tracks before one is so before the next one
pub next_sound : (tracks : Result Lines Refusal) (last : ℕ) → TracksSound tracks last → TracksSound tracks (last + 1 - 1)
next_sound tracks last sound = subst (TracksSound tracks) same sound
  where
    same : last ≡ last + 1 - 1
    same = omega arith

-- ---- by the tests of the code

module _ (s : Held) where
  limit_by : {t : Bool} → eqb s.last 0 ≡ t → pick t (on_in_row false s) (malformed s) ≡ limit_row s
  limit_by e = sym (ap (λ (t : Bool). pick t (on_in_row false s) (malformed s)) e)

  pub before_tracks : s.last ≤ 0 → on_in_row false s ≡ limit_row s
  before_tracks h = limit_by (eq-eqb s.last 0 (omega arith))

  pub after_track : 0 < s.last → malformed s ≡ limit_row s
  after_track h = limit_by (ne_eqb s.last 0 (λ e. omega arith))

  module _ (n : ℕ) where
    track_by : {t u : Bool} → eqb n s.last ≡ t → eqb n (s.last + 1) ≡ u
        → pick t (on_in_row true s) (pick u (on_in_row true (next_track end_track s)) (malformed s)) ≡ track_row end_track n s
    track_by e f = sym (λ i. pick (e i) (on_in_row true s) (pick (f i) (on_in_row true (next_track end_track s)) (malformed s)))

    pub same_track : n ≡ s.last → on_in_row true s ≡ track_row end_track n s
    same_track h = track_by (eq-eqb n s.last h) refl

    module _ (other : n ≡ s.last → ⊥) where
      pub one_more_track : n ≡ s.last + 1 → on_in_row true (next_track end_track s) ≡ track_row end_track n s
      one_more_track h = track_by (ne_eqb n s.last other) (eq-eqb n (s.last + 1) h)

      pub no_such_track : (n ≡ s.last + 1 → ⊥) → malformed s ≡ track_row end_track n s
      no_such_track h = track_by (ne_eqb n s.last other) (ne_eqb n (s.last + 1) h)

  module _ (byte : ℕ) where
    step_by : {t u : Bool} → eqb s.text.place row_start ≡ t → eqb byte blank ≡ u
        → pick t (pick u (row_of end_track s.column s) (in_column (column_after s.column byte) s)) (in_text keep s byte)
        ≡ step_with end_track keep s byte
    unfolding step_with
    step_by e f =
        sym (λ i. pick (e i) (pick (f i) (row_of end_track s.column s) (in_column (column_after s.column byte) s)) (in_text keep s byte))

    pub step-in_text : (s.text.place ≡ row_start → ⊥) → in_text keep s byte ≡ step_with end_track keep s byte
    step-in_text h = step_by (ne_eqb s.text.place row_start h) refl

    module _ (start : s.text.place ≡ row_start) where
      pub step_at-blank : byte ≡ blank → row_of end_track s.column s ≡ step_with end_track keep s byte
      step_at-blank h = step_by (eq-eqb s.text.place row_start start) (eq-eqb byte blank h)

      pub step-in_column : (byte ≡ blank → ⊥) → in_column (column_after s.column byte) s ≡ step_with end_track keep s byte
      step-in_column h = step_by (eq-eqb s.text.place row_start start) (ne_eqb byte blank h)
