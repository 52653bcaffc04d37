-- A track that has ended: its line after those before it, within the room and the numbers that there are; or its refusal. Assumes nothing.
use mathlib.Core.Path.{◌≡◌, sym, ap, ◌∙◌}
use mathlib.Core.List.{List, [], ◌++◌, append-nil}
use Prim.Native.Nat.{ℕ, ◌+◌, ◌-◌, ◌≤◌}
use native.Mathlib.Omega.{arith}
use lib.ListN.{take}
use lib.Ieee.{Float}
use Rattle.arcstring_check.specs.Answer.{refused, answered, map_answer}
use Rattle.arcstring_tally.specs.declared.counts.Counts.{Counts}
use Rattle.arcstring_tally.specs.Pairs.{total}
use Rattle.same_crossings.specs.CountLaws.{add_counts, sum_of_counts}
use Rattle.textform_count.specs.Count.{count_built}
use Rattle.textform.specs.Print.{decimal}
use Rattle.arcstring_visit.specs.Visit.{most_pairs}
use Rattle.textform_report.specs.Report.{line_room, heading_length, report_heading, report_line, track_lines, sums_of, Report, report_for, with_track}
use Rattle.textform_season.specs.declared.inner.track.Lines.{Lines}
use Rattle.textform_season.specs.Kept.{end_track, held_lines, LinesSound}

-- no track: the heading alone
pub no_lines : (n : ℕ) (out : List ℕ) → n ≡ heading_length → take n out ≡ report_heading
    → (let l : Lines = record { at = n; sums = record { clean = 0; end = 0; grazing = 0; apart = 0 } } in
    (answered (held_lines l out) ≡ answered (report_for [])) × LinesSound l 0)
unfolding track_lines sums_of total
no_lines n out h e = (
  λ i. answered (record { text = (e ∙ sym (append-nil report_heading)) i; sums = record { clean = 0; end = 0; grazing = 0; apart = 0 } }),
  record { room = omega arith; pairs = omega arith },
)

-- one line more
module _ (lines : Lines) (n : ℕ) (c : Counts) (some-track : 1 ≤ n) (sound : LinesSound lines (n - 1)) (few : sum_of_counts c ≤ most_pairs) where
  pub line_put : (end : ℕ) (sums : Counts) (old out : List ℕ) → end ≤ lines.at + line_room → take end out ≡ take lines.at old ++ report_line (decimal n) c
      → sums ≡ add_counts lines.sums c
      → (let l : Lines = record { at = end; sums = sums } in (held_lines l out ≡ with_track n (held_lines lines old) c) × LinesSound l n)
  line_put end sums old out r e s =
      let room = sound.room in
      let pairs = sound.pairs in
      let sum : sum_of_counts sums ≡ sum_of_counts lines.sums + sum_of_counts c = ap sum_of_counts s ∙ sum_added in
      (λ i. record { text = e i; sums = s i }, record { room = omega arith; pairs = omega arith })
    where
      sum_added : sum_of_counts (add_counts lines.sums c) ≡ sum_of_counts lines.sums + sum_of_counts c
      sum_added = omega arith

-- the track counted, or refused: o as the code takes the answer apart
module _ (limit track : List Float) (n : ℕ) (r : Report) where
  pub track_counted : (c : Counts) (x : Report) → answered c ≡ count_built track limit → x ≡ with_track n r c
      → answered x ≡ end_track limit track n (answered r)
  track_counted c x told e = ap answered e ∙ ap (map_answer (with_track n r)) told

  pub track_refused : (e : ℕ) → refused e ≡ count_built track limit → refused e ≡ end_track limit track n (answered r)
  track_refused e told = ap (map_answer (with_track n r)) told
