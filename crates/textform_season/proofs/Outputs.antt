-- What is printed, by the first thing that is wrong with the input, and how many pairs there are at most, as `specs/SeasonLaws.antt` has it. Assumes nothing.
use mathlib.Core.Path.{◌≡◌, refl, ap, ◌∙◌}
use mathlib.Core.Bool.{Bool, true}
use mathlib.Core.List.{List, [], ◌∷◌, ◌++◌, map}
use Prim.Native.Nat.{ℕ, suc, ◌+◌, ◌*◌, ◌≤◌}
use native.Mathlib.Omega.{arith}
use lib.ListN.{length}
use lib.Ieee.{Float}
use Rattle.arcstring_check.specs.Answer.{Answer, refused, answered, unless_refused, map_answer, and_then, pick}
use Rattle.arcstring_check.specs.Check.{build_check}
use Rattle.arcstring_check.proofs.Answers.{pass}
use Rattle.arcstring_tally.specs.declared.counts.Counts.{Counts}
use Rattle.arcstring_tally.specs.Pairs.{total}
use Rattle.same_crossings.specs.CountLaws.{sum_of_counts}
use Rattle.textform_count.specs.Count.{count_built}
use Rattle.arcstring_visit.specs.Visit.{most_pairs}
use Rattle.textform_report.proofs.ReportLaws.{all_pairs}
use Rattle.textform_season.specs.Season.{reading, limit_of, tracks_of, well_formed}
use Rattle.textform_season.specs.Output.{count_tracks, count_season, printed, output}
use Rattle.textform_season.specs.SeasonLaws.{MalformedFirst, LimitNext, AllAccepted, TrackNext, counts_with, ReportElse, PairsBounded}
use Rattle.textform_season.proofs.TrackCounts.{pairs_of_track}
use Rattle.textform_season.proofs.TrackNumbers.{all_as_numbered}

-- ---- a track, and the tracks, with a limit that is accepted

module _ (limit : List Float) (accepted : build_check limit ≡ 0) where
  one_refused : (track : List Float) (n : ℕ) → build_check track ≡ suc n → count_built track limit ≡ refused (suc n)
  unfolding count_built
  one_refused track n h =
      ap (λ (m : ℕ). unless_refused m (unless_refused (build_check limit) (answered (counts_with limit track)))) h

  one-counted : (track : List Float) → build_check track ≡ 0 → count_built track limit ≡ answered (counts_with limit track)
  unfolding count_built
  one-counted track h = pass (build_check track) _ h ∙ pass (build_check limit) _ accepted

  -- the first track, counted, is no more to say than its counts
  first_counted : (track : List Float) (tracks : List (List Float)) → build_check track ≡ 0
      → count_tracks limit (track ∷ tracks) ≡ map_answer (λ (cs : List Counts). counts_with limit track ∷ cs) (count_tracks limit tracks)
  unfolding count_tracks
  first_counted track tracks h =
      ap (λ (a : Answer Counts). and_then a (λ (c : Counts). map_answer (λ (cs : List Counts). c ∷ cs) (count_tracks limit tracks))) (one-counted track h)

  first_refused : (before : List (List Float)) (track : List Float) (after : List (List Float)) (n : ℕ) → AllAccepted before → build_check track ≡ suc n
      → count_tracks limit (before ++ (track ∷ after)) ≡ refused (suc n)
  unfolding count_tracks
  first_refused [] track after n all h =
      ap (λ (a : Answer Counts). and_then a (λ (c : Counts). map_answer (λ (cs : List Counts). c ∷ cs) (count_tracks limit after))) (one_refused track n h)
  first_refused (first ∷ before) track after n all h =
      first_counted first (before ++ (track ∷ after)) all.0
      ∙ ap (map_answer (λ (cs : List Counts). counts_with limit first ∷ cs)) (first_refused before track after n all.1 h)

  all_counted : (tracks : List (List Float)) → AllAccepted tracks → count_tracks limit tracks ≡ answered (map (counts_with limit) tracks)
  unfolding count_tracks
  all_counted [] all = refl
  all_counted (track ∷ tracks) all =
      first_counted track tracks all.0 ∙ ap (map_answer (λ (cs : List Counts). counts_with limit track ∷ cs)) (all_counted tracks all.1)

  few_pairs : (tracks : List (List Float)) → AllAccepted tracks → total sum_of_counts (map (counts_with limit) tracks) ≤ most_pairs * length tracks
  unfolding total
  few_pairs [] all = omega arith
  few_pairs (track ∷ tracks) all =
      let rest = few_pairs tracks all.1 in
      let one = pairs_of_track track limit (counts_with limit track) (one-counted track all.0) in
      sum (sum_of_counts (counts_with limit track)) (total sum_of_counts (map (counts_with limit) tracks)) (length tracks) one rest
    where
      sum : (x y k : ℕ) → x ≤ most_pairs → y ≤ most_pairs * k → x + y ≤ most_pairs * suc k
      sum x y k h l = omega arith

-- ---- the whole input

module _ (bytes : List ℕ) where
  by_form : {t : Bool} → well_formed (reading bytes) ≡ t
      → count_season (reading bytes)
      ≡ pick t (unless_refused (build_check (limit_of (reading bytes))) (count_tracks (limit_of (reading bytes)) (tracks_of (reading bytes)))) (refused 8)
  unfolding count_season
  by_form e =
      let s = reading bytes in
      ap (λ (t : Bool). pick t (unless_refused (build_check (limit_of s)) (count_tracks (limit_of s) (tracks_of s))) (refused 8)) e

  -- with a limit that is accepted, what the tracks give
  by_tracks : well_formed (reading bytes) ≡ true → build_check (limit_of (reading bytes)) ≡ 0 → (a : Answer (List Counts))
      → count_tracks (limit_of (reading bytes)) (tracks_of (reading bytes)) ≡ a → output bytes ≡ printed a
  unfolding output
  by_tracks well accepted a h = ap printed (by_form well ∙ pass (build_check (limit_of (reading bytes))) _ accepted ∙ h)

pub malformed_first : MalformedFirst
unfolding output
malformed_first bytes h = ap printed (by_form bytes h)

pub limit_next : LimitNext
unfolding output
limit_next bytes n well h =
    ap printed
    (by_form bytes well ∙ ap (λ (m : ℕ). unless_refused m (count_tracks (limit_of (reading bytes)) (tracks_of (reading bytes)))) h)

pub track_next : TrackNext
track_next bytes before track after n well accepted are all h =
    by_tracks bytes well accepted (refused (suc n))
    (ap (count_tracks (limit_of (reading bytes))) are ∙ first_refused (limit_of (reading bytes)) accepted before track after n all h)

pub report_else : ReportElse
report_else bytes well accepted all =
    by_tracks bytes well accepted (answered (map (counts_with (limit_of (reading bytes))) (tracks_of (reading bytes))))
    (all_counted (limit_of (reading bytes)) accepted (tracks_of (reading bytes)) all)

pub pairs_bounded : PairsBounded
pairs_bounded bytes accepted all =
    let limit = limit_of (reading bytes) in
    let tracks = tracks_of (reading bytes) in
    let few = few_pairs limit accepted tracks all in
    let sums = all_pairs (map (counts_with limit) tracks) in
    let numbered = all_as_numbered bytes in
    let many = numbered.as_many in
    let most = numbered.at_most in
    omega arith
