-- Splitting never depends on the numbers: without them it is splitting over points; and what the numbers of the pieces of a cut are. Assumes nothing.
use mathlib.Core.Path.{◌≡◌, sym, ap, ap₂, ◌∙◌}
use mathlib.Core.Bool.{Bool}
use mathlib.Core.List.{List, []}
use Prim.Native.Nat.{ℕ}
use lib.ListN.{length, take}
use lib.Ieee.{Float}
use Rattle.sphericalpoint.specs.declared.SphericalPoint.{SphericalPoint}
use Rattle.arcstring_check.specs.Answer.{Answer, unless_refused, map_answer, and_then}
use Rattle.arcstring.specs.Points.{StringOf, ArcString, itself, numbered, place_of, places_of, unnumbered, copied, points}
use Rattle.arcstring_check.specs.Check.{string_check, points_check}
use Rattle.arcstring_check.proofs.Answers.{where_passed}
use Rattle.arcstring.proofs.WithoutBuoys.{buoy_of, lent_places, string_alike, points_alike}
use Rattle.arcstring_build.specs.Build.{built_string, built_numbered}
use Rattle.arcstring_build.proofs.BuildsWithout.{built_unnumbered, built_buoys_lem}
use Rattle.arcstring_along.specs.OnString.{stored}
use Rattle.arcstring_insert.proofs.InsertsWithout.{points_places}
use Rattle.arcstring_split_leg.specs.SplitLeg.{unless_uncut}
use Rattle.arcstring_piece.specs.Cut.{first_points, second_points, cut_all}
use Rattle.arcstring_split.specs.Split.{pieces_into, split_into, numbered_copy, split_string}
use Rattle.arcstring_split_leg.specs.SplitLeg.{each_piece}
use Rattle.arcstring_split.specs.BuoyLaws.{SplitWithout, CutBuoys}
use Rattle.arcstring_split.proofs.Natural.{map-cut_all, map-split_into, map_first, map_second}

-- what is answered to an accepted string and accepted points is all that matters
split_where : {A : Type 0} (v : List Float) (bs : List ℕ) (extra : List Float) (es : List ℕ) (room buoy_room counts_room flags_room : ℕ)
    (a b : Answer (List (StringOf A)))
    → (string_check v bs ≡ 0 → points_check extra es ≡ 0 → a ≡ b)
    → split_into v bs extra es room buoy_room counts_room flags_room a ≡ split_into v bs extra es room buoy_room counts_room flags_room b
unfolding split_into
split_where {A} v bs extra es room buoy_room counts_room flags_room a b same =
    where_passed (string_check v bs) _ _
    (λ h. where_passed (points_check extra es) _ _
    (λ k. ap (λ (x : Answer (List (StringOf A))). and_then x (λ (ss : List (StringOf A)). pieces_into room buoy_room counts_room flags_room (unless_uncut ss)))
    (same h k)))

copy_places : (v : List Float) (bs : List ℕ) (closed : Bool) → string_check v bs ≡ 0
    → unnumbered (numbered_copy v bs closed) ≡ copied (stored v [] closed)
unfolding copied
copy_places v bs closed h = ap (λ (ps : List SphericalPoint). record { vertices = ps; near = points v; closed = closed }) (lent_places v bs h)

pub split_without : SplitWithout
unfolding split_string
split_without v bs closed extra es room buoy_room counts_room flags_room =
    map-split_into place_of room buoy_room counts_room flags_room v bs extra es
    (cut_all place_of built_numbered (numbered (points extra) es) (numbered_copy v bs closed))
    ∙ split_where v bs extra es room buoy_room counts_room flags_room _ _
    (λ h k. map-cut_all place_of itself built_numbered built_string built_unnumbered (numbered (points extra) es) (numbered_copy v bs closed)
    ∙ ap₂ (cut_all itself built_string) (points_places extra es k) (copy_places v bs closed h))

-- strings and points alike but for the values of their numbers get the same answer and pieces
pub split_alike : (v : List Float) (bs cs : List ℕ) (closed : Bool) (extra : List Float) (es fs : List ℕ) (room buoy_room counts_room flags_room : ℕ)
    → length bs ≡ length cs → length es ≡ length fs
    → map_answer (each_piece unnumbered) (split_string v bs closed extra es room buoy_room counts_room flags_room)
    ≡ map_answer (each_piece unnumbered) (split_string v cs closed extra fs room buoy_room counts_room flags_room)
unfolding split_into
split_alike v bs cs closed extra es fs room buoy_room counts_room flags_room same likewise =
    let pieces =
    and_then (cut_all itself built_string (points extra) (copied (stored v [] closed)))
    (λ (ss : List ArcString). pieces_into room buoy_room counts_room flags_room (unless_uncut ss)) in
    split_without v bs closed extra es room buoy_room counts_room flags_room
    ∙ ap₂ (λ (m n : ℕ). unless_refused m (unless_refused n pieces)) (string_alike v bs cs same) (points_alike extra es fs likewise)
    ∙ sym (split_without v cs closed extra fs room buoy_room counts_room flags_room)

-- ---- the numbers of the two pieces of a cut

pub cut_buoys : CutBuoys
cut_buoys = record {
  first = λ x vs i. let ys = first_points x vs i in built_buoys_lem ys ∙ ap (take (length (built_string (places_of ys)).vertices)) (map_first buoy_of x vs i);
  second = λ x vs i. let ys = second_points x vs i in
      built_buoys_lem ys ∙ ap (take (length (built_string (places_of ys)).vertices)) (map_second buoy_of x vs i);
}
