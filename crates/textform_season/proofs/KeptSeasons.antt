-- What the code keeps of a season prints what the plain reading does, as `specs/SeasonLaws.antt` has it. Assumes nothing.
use mathlib.Core.Path.{◌≡◌, refl, sym, ap, ap₂, ◌∙◌}
use mathlib.Core.Bool.{Bool, true, false}
use mathlib.Core.List.{List, [], ◌∷◌, ◌++◌}
use mathlib.Core.Option.{Option, none, some}
use Prim.Native.Nat.{ℕ, zero, suc, ◌+◌}
use native.Mathlib.Omega.{arith}
use lib.Dec.{eqb}
use lib.ListN.{length, length-append}
use lib.Ieee.{Float}
use borrow.Author.Tests.{eqb-true, eqb-false}
use Rattle.arcstring_check.specs.Answer.{Answer, refused, answered, unless_refused, map_answer, pick}
use Rattle.arcstring_check.specs.Check.{build_check}
use Rattle.arcstring_tally.specs.declared.counts.Counts.{Counts}
use Rattle.textform.specs.Text.{in_turn}
use Rattle.textform.specs.Text.{blank, row_start, append, in_row, without_second}
use Rattle.textform.specs.Text as Text
use Rattle.textform.specs.Kept.{keep}
use Rattle.textform.proofs.Readings.{kept_of, kept_state}
use Rattle.textform.proofs.Readings as Readings
use Rattle.textform.proofs.Rows.{same_row}
use Rattle.textform.proofs.inner.read.Triples.{Whole, InTriples, malformed_triples, step_triples, start_triples, whole_at_start, triples_in_row}
use Rattle.textform_count.proofs.KeptCounts.{kept_check, pick_same}
use Rattle.textform_report.specs.Report.{Report, report_for}
use Rattle.textform_report.proofs.ReportLaws.{report_finished}
use Rattle.textform_season.specs.declared.inner.column.Column.{Column}
use Rattle.textform_season.specs.declared.inner.column.Column.TheVariants as C
use Rattle.textform_season.specs.Season.{Season, begun, malformed, in_column, on_in_row, limit_row, well_formed, all_done, next_track, track_row, row_of}
use Rattle.textform_season.specs.Season.{in_text, step_with, fed_with, column_after, keep_track, reading, limit_of, tracks_of}
use Rattle.textform_season.specs.Output.{count_tracks, count_season, printed, output}
use Rattle.textform_season.specs.Kept.{end_track, kept_start, kept_fed, printed_report, kept_answer}
use Rattle.textform_season.specs.SeasonLaws.{KeptOutput}
use Rattle.textform_season.proofs.PlainReading.{Plain, between_rows}
use Rattle.textform_season.proofs.TrackCounts.{reported, end_reported}

-- what is kept of a plain reading
abbrev kept_season : Plain → Season (Answer Report)
kept_season s = record { text = kept_state s.text; column = s.column; last = s.last; done = reported (limit_of s) s.done }

-- ---- what is so at each byte

-- Before the first track none is done; from then on there is one more than those that are done, and no row is the limit's.
data Order (s : Plain) : Type 0 where
  before : s.last ≡ 0 → s.done ≡ [] → Order s
  within : s.last ≡ suc (length s.done) → s.text.second ≡ true → Order s

record Ordered (s : Plain) : Type 0 where
  triples : InTriples s.text
  order : Order s

-- ---- all tracks

module _ (s : Plain) (o : Ordered s) (start : s.text.place ≡ row_start) where
  whole : Whole s.text.a × Whole s.text.b
  whole = whole_at_start s.text o.triples start

  all_kept : all_done end_track (kept_season s) ≡ reported (limit_of s) (tracks_of s)
  all_kept = by_test (eqb s.last 0) refl
    where
      by_order : Order s → (s.last ≡ 0 → ⊥) → s.last ≡ suc (length s.done)
      by_order (before e n) h = absurd (h e)
      by_order (within e t) h = e

      by_test : (t : Bool) → eqb s.last 0 ≡ t
          → pick t (reported (limit_of s) s.done) (end_track (kept_of s.text.a) (kept_of s.text.b) s.last (reported (limit_of s) s.done))
          ≡ reported (limit_of s) (pick t s.done (keep_track s.text.a s.text.b s.last s.done))
      by_test true e = refl
      by_test false e =
          end_reported (limit_of s) s.done s.text.b s.last whole.0 whole.1 (by_order o.order (eqb-false s.last 0 e))

-- ---- a byte keeps the order

same_order : (s t : Plain) → t.last ≡ s.last → t.done ≡ s.done → (s.text.second ≡ true → t.text.second ≡ true) → Order s → Order t
same_order s t l d h (before e n) = before (l ∙ e) (d ∙ n)
same_order s t l d h (within e b) = within (l ∙ e ∙ ap (λ (x : List (List Float)). suc (length x)) (sym d)) (h b)

module _ (s : Plain) (o : Ordered s) where
  malformed_ordered : Ordered (malformed s)
  malformed_ordered = record { triples = malformed_triples s.text; order = same_order s (malformed s) refl refl (λ h. h) o.order }

  column_ordered : (c : Option Column) → Ordered (in_column c s)
  column_ordered none = malformed_ordered
  column_ordered (some c) = record { triples = o.triples; order = same_order s (in_column (some c) s) refl refl (λ h. h) o.order }

  text_ordered : (byte : ℕ) → (s.text.place ≡ row_start → ⊥) → Ordered (in_text append s byte)
  text_ordered byte past =
      let same = same_row append s.text byte past in
      record {
        triples = step_triples s.text o.triples byte;
        order = same_order s (in_text append s byte) refl refl (λ h. same.same_string ∙ h) o.order;
      }

  module _ (start : s.text.place ≡ row_start) where
    limit_ordered : Ordered (limit_row s)
    limit_ordered = by_test (eqb s.last 0) refl
      where
        none_yet : s.last ≡ 0 → Order s → Order (on_in_row false s)
        none_yet z (before e n) = before e n
        none_yet z (within e b) = absurd (omega arith)

        by_test : (t : Bool) → eqb s.last 0 ≡ t → Ordered (pick t (on_in_row false s) (malformed s))
        by_test true e = record {
          triples = triples_in_row false s.text (whole s o start).0 (whole s o start).1;
          order = none_yet (eqb-true s.last 0 e) o.order;
        }
        by_test false e = malformed_ordered

    next_order : Order s → Order (on_in_row true (next_track keep_track s))
    next_order r = by_test (eqb s.last 0) refl r
      where
        by_test : (t : Bool) → eqb s.last 0 ≡ t → Order s
            → (let done = pick t s.done (s.done ++ (s.text.b ∷ [])) in
            Order (on_in_row true (record { text = without_second s.text; column = C.Empty; last = s.last + 1; done = done })))
        by_test true e (before z n) = within (omega (arith, ap length n)) refl
        by_test true e (within l b) = absurd (omega (arith, eqb-true s.last 0 e))
        by_test false e (before z n) = absurd (eqb-false s.last 0 e z)
        by_test false e (within l b) = within (omega (arith, length-append s.done (s.text.b ∷ []))) refl

    track_ordered : (n : ℕ) → Ordered (track_row keep_track n s)
    track_ordered n = by_tests_lem (eqb n s.last) (eqb n (s.last + 1))
      where
        by_tests_lem : (t u : Bool) → Ordered (pick t (on_in_row true s) (pick u (on_in_row true (next_track keep_track s)) (malformed s)))
        by_tests_lem true u = record {
          triples = triples_in_row true s.text (whole s o start).0 (whole s o start).1;
          order = same_order s (on_in_row true s) refl refl (λ h. refl) o.order;
        }
        by_tests_lem false true = record {
          triples = triples_in_row true (without_second s.text) (whole s o start).0 refl;
          order = next_order o.order;
        }
        by_tests_lem false false = malformed_ordered

    row_ordered : (c : Column) → Ordered (row_of keep_track c s)
    row_ordered C.Empty = malformed_ordered
    row_ordered C.Limit = limit_ordered
    row_ordered (C.Number n) = track_ordered n

  step_ordered : (byte : ℕ) → Ordered (step_with keep_track append s byte)
  unfolding step_with
  step_ordered byte = by_place (eqb s.text.place row_start) refl
    where
      by_place : (t : Bool) → eqb s.text.place row_start ≡ t
          → Ordered
          (pick t (pick (eqb byte blank) (row_of keep_track s.column s) (in_column (column_after s.column byte) s)) (in_text append s byte))
      by_place false e = text_ordered byte (eqb-false s.text.place row_start e)
      by_place true e = by_byte (eqb byte blank)
        where
          by_byte : (t : Bool) → Ordered (pick t (row_of keep_track s.column s) (in_column (column_after s.column byte) s))
          by_byte true = row_ordered (eqb-true s.text.place row_start e) s.column
          by_byte false = column_ordered (column_after s.column byte)

-- ---- and is kept as it is read

module _ (s : Plain) (o : Ordered s) where
  -- with the limit of a row, which is longer only before the first track
  same_limit : (byte : ℕ) → (s.text.place ≡ row_start → ⊥) → reported (limit_of s) s.done ≡ reported (limit_of (in_text append s byte)) s.done
  unfolding count_tracks
  same_limit byte past = by_order o.order
    where
      by_order : Order s → reported (limit_of s) s.done ≡ reported (limit_of (in_text append s byte)) s.done
      by_order (before e n) =
          ap (reported (limit_of s)) n ∙ sym (ap (reported (limit_of (in_text append s byte))) n)
      by_order (within e b) =
          ap (λ (l : List Float). reported l s.done) (sym ((same_row append s.text byte past).same_first b))

  text_kept : (byte : ℕ) → (s.text.place ≡ row_start → ⊥) → in_text keep (kept_season s) byte ≡ kept_season (in_text append s byte)
  text_kept byte past = λ i. record {
    text = Readings.kept_step s.text byte i;
    column = s.column;
    last = s.last;
    done = same_limit byte past i;
  }

  limit_kept : limit_row (kept_season s) ≡ kept_season (limit_row s)
  limit_kept = by_test (eqb s.last 0)
    where
      by_test : (t : Bool) → pick t (on_in_row false (kept_season s)) (malformed (kept_season s)) ≡ kept_season (pick t (on_in_row false s) (malformed s))
      by_test true = refl
      by_test false = refl

  next_kept : s.text.place ≡ row_start → on_in_row true (next_track end_track (kept_season s)) ≡ kept_season (on_in_row true (next_track keep_track s))
  unfolding kept_of
  next_kept start = λ i. record {
    text = in_row true (without_second (kept_state s.text));
    column = C.Empty;
    last = s.last + 1;
    done = all_kept s o start i;
  }

  track_kept : s.text.place ≡ row_start → (n : ℕ) → track_row end_track n (kept_season s) ≡ kept_season (track_row keep_track n s)
  track_kept start n = by_tests_lem (eqb n s.last) (eqb n (s.last + 1))
    where
      by_tests_lem : (t u : Bool)
          → pick t (on_in_row true (kept_season s)) (pick u (on_in_row true (next_track end_track (kept_season s))) (malformed (kept_season s)))
          ≡ kept_season (pick t (on_in_row true s) (pick u (on_in_row true (next_track keep_track s)) (malformed s)))
      by_tests_lem true u = refl
      by_tests_lem false true = next_kept start
      by_tests_lem false false = refl

  row_kept : s.text.place ≡ row_start → (c : Column) → row_of end_track c (kept_season s) ≡ kept_season (row_of keep_track c s)
  row_kept start C.Empty = refl
  row_kept start C.Limit = limit_kept
  row_kept start (C.Number n) = track_kept start n

  column_kept : (c : Option Column) → in_column c (kept_season s) ≡ kept_season (in_column c s)
  column_kept none = refl
  column_kept (some c) = refl

  step_kept : (byte : ℕ) → step_with end_track keep (kept_season s) byte ≡ kept_season (step_with keep_track append s byte)
  unfolding step_with
  step_kept byte = by_place (eqb s.text.place row_start) refl
    where
      by_place : (t : Bool) → eqb s.text.place row_start ≡ t
          → pick t (pick (eqb byte blank) (row_of end_track s.column (kept_season s)) (in_column (column_after s.column byte) (kept_season s)))
          (in_text keep (kept_season s) byte)
          ≡ kept_season
          (pick t (pick (eqb byte blank) (row_of keep_track s.column s) (in_column (column_after s.column byte) s)) (in_text append s byte))
      by_place false e = text_kept byte (eqb-false s.text.place row_start e)
      by_place true e = by_byte (eqb byte blank)
        where
          by_byte : (t : Bool) → pick t (row_of end_track s.column (kept_season s)) (in_column (column_after s.column byte) (kept_season s))
              ≡ kept_season (pick t (row_of keep_track s.column s) (in_column (column_after s.column byte) s))
          by_byte true = row_kept (eqb-true s.text.place row_start e) s.column
          by_byte false = column_kept (column_after s.column byte)

-- ---- the whole input

fed_ordered : (s : Plain) (bytes : List ℕ) → Ordered s → Ordered (fed_with keep_track append s bytes)
unfolding in_turn
fed_ordered s [] o = o
fed_ordered s (byte ∷ bytes) o = fed_ordered (step_with keep_track append s byte) bytes (step_ordered s o byte)

fed_kept : (s : Plain) (bytes : List ℕ) → Ordered s → fed_with end_track keep (kept_season s) bytes ≡ kept_season (fed_with keep_track append s bytes)
unfolding in_turn
fed_kept s [] o = refl
fed_kept s (byte ∷ bytes) o =
    ap (λ (t : Season (Answer Report)). fed_with end_track keep t bytes) (step_kept s o byte)
    ∙ fed_kept (step_with keep_track append s byte) bytes (step_ordered s o byte)

start_ordered : Ordered (begun [])
start_ordered = record { triples = start_triples; order = before refl refl }

kept_reading_lem : (bytes : List ℕ) → kept_fed kept_start bytes ≡ kept_season (reading bytes)
unfolding reading kept_of count_tracks
kept_reading_lem bytes = fed_kept (begun []) bytes start_ordered

-- as many tracks as the last one's number says
pub as_many_tracks : (bytes : List ℕ) → length (tracks_of (reading bytes)) ≡ (reading bytes).last
unfolding reading
as_many_tracks bytes = by_order (eqb s.last 0) refl (fed_ordered (begun []) bytes start_ordered).order
  where
    s : Plain
    s = fed_with keep_track append (begun []) bytes

    by_order : (t : Bool) → eqb s.last 0 ≡ t → Order s → length (pick t s.done (s.done ++ (s.text.b ∷ []))) ≡ s.last
    by_order true e (before z n) = ap length n ∙ sym z
    by_order true e (within l b) = absurd (omega (arith, eqb-true s.last 0 e))
    by_order false e (before z n) = absurd (eqb-false s.last 0 e z)
    by_order false e (within l b) = omega (arith, length-append s.done (s.text.b ∷ []))

-- the answer, where the input is well formed
answer_kept : (s : Plain) → Ordered s → kept_answer (kept_season s) ≡ map_answer report_for (count_season s)
unfolding kept_answer count_season well_formed Text.well_formed
answer_kept s o =
    pick_same (well_formed s) _ _ _ well ∙ by_test (well_formed s)
  where
    by_check : (n : ℕ) (x : Answer (List Counts)) → unless_refused n (map_answer report_for x) ≡ map_answer report_for (unless_refused n x)
    by_check zero x = refl
    by_check (suc n) x = refl

    well : well_formed s ≡ true → unless_refused (build_check (kept_of (limit_of s))) (all_done end_track (kept_season s))
        ≡ map_answer report_for (unless_refused (build_check (limit_of s)) (count_tracks (limit_of s) (tracks_of s)))
    well h =
        let start = (between_rows s h).0 in
        ap₂ unless_refused (kept_check (limit_of s) (whole s o start).0) (all_kept s o start)
        ∙ by_check (build_check (limit_of s)) (count_tracks (limit_of s) (tracks_of s))

    by_test : (t : Bool)
        → pick t (map_answer report_for (unless_refused (build_check (limit_of s)) (count_tracks (limit_of s) (tracks_of s)))) (refused 8)
        ≡ map_answer report_for (pick t (unless_refused (build_check (limit_of s)) (count_tracks (limit_of s) (tracks_of s))) (refused 8))
    by_test true = refl
    by_test false = refl

printed_same : (x : Answer (List Counts)) → printed_report (map_answer report_for x) ≡ printed x
printed_same (refused n) = refl
printed_same (answered cs) = report_finished cs

pub kept_output : KeptOutput
unfolding output reading
kept_output bytes =
    ap (λ (t : Season (Answer Report)). printed_report (kept_answer t)) (kept_reading_lem bytes)
    ∙ ap printed_report (answer_kept (reading bytes) (fed_ordered (begun []) bytes start_ordered))
    ∙ printed_same (count_season (reading bytes))
