-- The report may be made track by track, and the pairs of the line of all are those of the tracks' lines, as `specs/ReportLaws.antt` has it. Assumes nothing.
use mathlib.Core.Path.{◌≡◌, refl, sym, ap, ap₂, ◌∙◌}
use mathlib.Core.List.{List, [], ◌∷◌, ◌++◌, append-nil, append_assoc}
use Prim.Native.Nat.{ℕ, ◌+◌}
use native.Mathlib.Omega.{arith}
use lib.ListN.{length}
use Rattle.arcstring_tally.specs.declared.counts.Counts.{Counts}
use Rattle.arcstring_tally.specs.Pairs.{total}
use Rattle.arcstring_tally.proofs.Tallies.{total-append}
use Rattle.same_crossings.specs.CountLaws.{add_counts}
use Rattle.textform.specs.Print.{decimal}
use Rattle.textform_report.specs.Report.{all_word, report_heading, report_line, track_lines, sums_of, report_text}
use Rattle.textform_report.specs.ReportLaws.{AllPairs, OneTrackMore, ReportFinished}

-- ---- sums

pub all_pairs : AllPairs
unfolding sums_of total
all_pairs [] = refl
all_pairs (c ∷ cs) = let h = all_pairs cs in omega arith

-- one track more at the end
total_more : (g : Counts → ℕ) (cs : List Counts) (c : Counts) → total g (cs ++ (c ∷ [])) ≡ total g cs + g c
unfolding total
total_more g cs c = let e = total-append g cs (c ∷ []) in omega arith

sums_more : (cs : List Counts) (c : Counts) → sums_of (cs ++ (c ∷ [])) ≡ add_counts (sums_of cs) c
unfolding sums_of
sums_more cs c =
    simp (
      total_more (λ (x : Counts). x.clean) cs c,
      total_more (λ (x : Counts). x.end) cs c,
      total_more (λ (x : Counts). x.grazing) cs c,
      total_more (λ (x : Counts). x.apart) cs c,
    )

-- ---- lines

lines_more : (n : ℕ) (cs : List Counts) (c : Counts) → track_lines n (cs ++ (c ∷ [])) ≡ track_lines n cs ++ report_line (decimal (n + length cs)) c
unfolding track_lines
lines_more n [] c = let e : n + 0 ≡ n = omega arith in rw e (append-nil (report_line (decimal n) c))
lines_more n (x ∷ cs) c =
    let e : n + 1 + length cs ≡ n + length (x ∷ cs) = omega arith in
    ap (λ (l : List ℕ). report_line (decimal n) x ++ l) (lines_more (n + 1) cs c ∙ ap (λ (k : ℕ). track_lines (n + 1) cs ++ report_line (decimal k) c) e)
    ∙ sym (append_assoc (report_line (decimal n) x) (track_lines (n + 1) cs) (report_line (decimal (n + length (x ∷ cs))) c))

text_more : (cs : List Counts) (c : Counts)
    → report_heading ++ track_lines 1 (cs ++ (c ∷ [])) ≡ (report_heading ++ track_lines 1 cs) ++ report_line (decimal (length cs + 1)) c
text_more cs c =
    let e : 1 + length cs ≡ length cs + 1 = omega arith in
    ap (λ (l : List ℕ). report_heading ++ l) (lines_more 1 cs c ∙ ap (λ (k : ℕ). track_lines 1 cs ++ report_line (decimal k) c) e)
    ∙ sym (append_assoc report_heading (track_lines 1 cs) (report_line (decimal (length cs + 1)) c))

pub one_track_more : OneTrackMore
one_track_more cs c = ap₂ (λ (t : List ℕ) (s : Counts). record { text = t; sums = s }) (text_more cs c) (sums_more cs c)

pub report_finished : ReportFinished
unfolding report_text
report_finished cs = append_assoc report_heading (track_lines 1 cs) (report_line all_word (sums_of cs))
