-- The tracks counted one after another: one more at the end, its line, and how many pairs it has at most. Assumes nothing.
use mathlib.Core.Path.{◌≡◌, refl, sym, ap, ◌∙◌, subst}
use mathlib.Core.Bool.{Bool, true, false}
use mathlib.Core.List.{List, [], ◌∷◌, ◌++◌}
use Prim.Native.Nat.{ℕ, suc, ◌+◌, ◌-◌, ◌*◌, ◌≤◌}
use native.Mathlib.Nat.{mul-le-mul}
use native.Mathlib.Omega.{arith}
use lib.ListN.{length}
use lib.Ieee.{Float}
use Rattle.arcstring_check.specs.Answer.{Answer, refused, answered, map_answer, and_then, pick}
use Rattle.arcstring_check.specs.Check.{build_check, no_margin, most_points}
use Rattle.arcstring_check.proofs.Answers.{both_passed}
use Rattle.arcstring.specs.Points.{points}
use Rattle.arcstring.specs.Leg.{legs, leg_count}
use Rattle.arcstring_build.specs.Build.{built_string}
use Rattle.arcstring_build.proofs.Builds.{built_count_lem}
use Rattle.arcstring_tally.specs.declared.counts.Counts.{Counts}
use Rattle.arcstring_tally.specs.Pairs.{pairs_between, counts_of}
use Rattle.arcstring_visit.proofs.Rows.{length_between}
use Rattle.same_crossings.specs.CountLaws.{sum_of_counts}
use Rattle.same_crossings.proofs.Counting.{counts_sum, legs-length}
use Rattle.textform.proofs.inner.read.Triples.{Whole}
use Rattle.textform.proofs.Readings.{kept_of}
use Rattle.textform_count.specs.Count.{counts_between, count_built}
use Rattle.textform_count.proofs.KeptCounts.{kept_built}
use Rattle.arcstring_visit.specs.Visit.{most_pairs}
use Rattle.textform_report.specs.Report.{Report, report_for, with_track}
use Rattle.textform_report.proofs.ReportLaws.{one_track_more}
use Rattle.textform_season.specs.Output.{count_tracks}
use Rattle.textform_season.specs.Kept.{end_track}

-- ---- one track more

-- an answer, then those after it, then one more
in-turn : (a : Answer Counts) (b : Answer (List Counts)) (d : Answer Counts)
    → and_then a (λ (c : Counts). map_answer (λ (cs : List Counts). c ∷ cs) (and_then b (λ (cs : List Counts). map_answer (λ (x : Counts). cs ++ (x ∷ [])) d)))
    ≡ and_then (and_then a (λ (c : Counts). map_answer (λ (cs : List Counts). c ∷ cs) b)) (λ (cs : List Counts). map_answer (λ (x : Counts). cs ++ (x ∷ [])) d)
in-turn (refused n) b d = refl
in-turn (answered c) (refused n) d = refl
in-turn (answered c) (answered cs) (refused n) = refl
in-turn (answered c) (answered cs) (answered x) = refl

alone : (d : Answer Counts) → and_then d (λ (c : Counts). map_answer (λ (cs : List Counts). c ∷ cs) (answered [])) ≡ map_answer (λ (x : Counts). x ∷ []) d
alone (refused n) = refl
alone (answered c) = refl

module _ (limit : List Float) where
  count_last : (tracks : List (List Float)) (track : List Float) → count_tracks limit (tracks ++ (track ∷ []))
      ≡ and_then (count_tracks limit tracks) (λ (cs : List Counts). map_answer (λ (c : Counts). cs ++ (c ∷ [])) (count_built track limit))
  unfolding count_tracks
  count_last [] track = alone (count_built track limit)
  count_last (first ∷ tracks) track =
      ap (λ (x : Answer (List Counts)). and_then (count_built first limit) (λ (c : Counts). map_answer (λ (cs : List Counts). c ∷ cs) x))
      (count_last tracks track)
      ∙ in-turn (count_built first limit) (count_tracks limit tracks) (count_built track limit)

  -- as many counts as tracks
  count_length : (tracks : List (List Float)) (cs : List Counts) → count_tracks limit tracks ≡ answered cs → length cs ≡ length tracks
  unfolding count_tracks
  count_length [] cs h = ap length (answered_same h)
    where
      answered_same : answered [] ≡ answered cs → cs ≡ []
      answered_same h = cc
  count_length (first ∷ tracks) cs h = by_answers (count_built first limit) (count_tracks limit tracks) (count_length tracks) h
    where
      by_answers : (a : Answer Counts) (b : Answer (List Counts)) → ((ds : List Counts) → b ≡ answered ds → length ds ≡ length tracks)
          → and_then a (λ (c : Counts). map_answer (λ (cs : List Counts). c ∷ cs) b) ≡ answered cs
          → length cs ≡ length (first ∷ tracks)
      by_answers (refused n) b k g = absurd (let z : ◌≡◌ {A = ℕ} 0 1 = cc in omega arith)
      by_answers (answered c) (refused n) k g = absurd (let z : ◌≡◌ {A = ℕ} 0 1 = cc in omega arith)
      by_answers (answered c) (answered ds) k g = let i : cs ≡ c ∷ ds = cc in ap length i ∙ ap suc (k ds refl)

  -- what the lines say of tracks counted with the limit
  abbrev pub reported : List (List Float) → Answer Report
  reported tracks = map_answer report_for (count_tracks limit tracks)

  -- a track that has ended, as the code keeps it
  pub end_reported : (tracks : List (List Float)) (track : List Float) (n : ℕ) → Whole limit → Whole track → n ≡ suc (length tracks)
      → end_track (kept_of limit) (kept_of track) n (reported tracks) ≡ reported (tracks ++ (track ∷ []))
  end_reported tracks track n l t is =
      ap (λ (d : Answer Counts). and_then (reported tracks) (λ (r : Report). map_answer (with_track n r) d)) (kept_built track limit t l)
      ∙ by_answers (count_tracks limit tracks) (count_built track limit) (count_length tracks)
      ∙ sym (ap (map_answer report_for) (count_last tracks track))
    where
      by_answers : (a : Answer (List Counts)) (d : Answer Counts) → ((cs : List Counts) → a ≡ answered cs → length cs ≡ length tracks)
          → and_then (map_answer report_for a) (λ (r : Report). map_answer (with_track n r) d)
          ≡ map_answer report_for (and_then a (λ (cs : List Counts). map_answer (λ (c : Counts). cs ++ (c ∷ [])) d))
      by_answers (refused m) d h = refl
      by_answers (answered cs) (refused m) h = refl
      by_answers (answered cs) (answered c) h =
          let e : n ≡ length cs + 1 = omega (arith, h cs refl) in
          ap (λ (k : ℕ). answered (with_track k (report_for cs) c)) e ∙ ap answered (sym (one_track_more cs c))

-- ---- how many pairs

few_legs : (v : List Float) → build_check v ≡ 0 → length (legs (built_string (points v)).vertices (built_string (points v)).closed) ≤ most_points
unfolding leg_count
few_legs v accepted =
    let s = built_string (points v) in
    let few = (built_count_lem v accepted).1 in
    subst (λ (n : ℕ). n ≤ most_points) (sym (legs-length s.vertices s.closed)) (by_flag s.closed few)
  where
    by_flag : (closed : Bool) → length (built_string (points v)).vertices ≤ 1024
        → pick closed (length (built_string (points v)).vertices) (length (built_string (points v)).vertices - 1) ≤ most_points
    by_flag true h = h
    by_flag false h = omega arith

-- a track that is counted has no more pairs with the limit than 1,024 legs with 1,024
pub pairs_of_track : (track limit : List Float) (c : Counts) → count_built track limit ≡ answered c → sum_of_counts c ≤ most_pairs
unfolding count_built counts_between
pairs_of_track track limit c h =
    let s = built_string (points track) in
    let t = built_string (points limit) in
    let ls = legs s.vertices s.closed in
    let ms = legs t.vertices t.closed in
    let p = both_passed (build_check track) (build_check limit) (counts_of (pairs_between no_margin ls ms)) c h in
    let n : sum_of_counts c ≡ length ls * length ms = ap sum_of_counts (sym p.2) ∙ counts_sum (pairs_between no_margin ls ms)
    ∙ length_between no_margin ls ms in
    subst (λ (k : ℕ). k ≤ most_pairs) (sym n) (mul-le-mul (few_legs track p.0) (few_legs limit p.1))
