-- Cutting at marks never depends on the numbers: without them it is cutting over points. Assumes nothing.
use mathlib.Core.Path.{◌≡◌, refl, sym, ap, ap₂, ◌∙◌}
use mathlib.Core.Bool.{Bool, false}
use mathlib.Core.List.{List, [], ◌∷◌, map, map-map}
use mathlib.Core.Option.{Option, none, some}
use Prim.Native.Nat.{ℕ}
use lib.ListN.{length, length-map}
use lib.Ieee.{Float}
use Rattle.sphericalpoint.specs.declared.SphericalPoint.{SphericalPoint}
use Rattle.arcstring_check.specs.Answer.{Answer, refused, answered, unless_refused, map_answer, first_of, and_then}
use Rattle.arcstring_check.specs.Check.{string_check, points_check, room_check, rooms_check}
use Rattle.arcstring_check.proofs.Answers.{map_unless, where_passed}
use Rattle.arcstring.specs.declared.inner.vertex.Vertex.{Vertex}
use Rattle.arcstring.specs.Points.{StringOf, ArcString, itself, numbered, place_of, places_of, unnumbered, points}
use Rattle.arcstring.specs.Written.{points_in}
use Rattle.arcstring.proofs.WithoutBuoys.{lent_places, string_alike, points_alike}
use Rattle.arcstring_insert.proofs.InsertsWithout.{points_places}
use Rattle.arcstring_split_leg.specs.SplitLeg.{unless_uncut, each_piece}
use Rattle.arcstring_split_leg.proofs.Uncut.{each_unless_uncut, same_count}
use Rattle.arcstring_mark_cut.specs.CutAtMarks.{opened, cut_at_each, open_string, cut_into, cut_checked, cut_at_marks}
use Rattle.arcstring_mark_cut.specs.BuoyLaws.{CutWithout}
use Rattle.arcstring_mark_cut.proofs.Natural.{map-opened, map_cut}

-- ---- the checks of a cut, and what it answers, without the numbers

pieces_without : (xss : List (List Vertex)) → map unnumbered (map (open_string place_of) xss) ≡ map (open_string itself) (map places_of xss)
pieces_without [] = refl
pieces_without (xs ∷ xss) =
    ap₂ (λ (ps : List SphericalPoint) (ss : List ArcString). record { vertices = places_of xs; near = ps; closed = false } ∷ ss)
    (sym (map-map itself place_of xs)) (pieces_without xss)

module _ (room buoy_room counts_room : ℕ) where
  into_without : (o : Option (List (StringOf Vertex)))
      → map_answer (each_piece unnumbered) (cut_into room buoy_room counts_room o) ≡ cut_into room buoy_room counts_room (each_piece unnumbered o)
  into_without none = refl
  into_without (some ss) =
      map_unless (each_piece unnumbered) (first_of (rooms_check (points_in ss) room buoy_room) (room_check (length ss) counts_room)) (answered (some ss))
      ∙ ap₂ (λ (m n : ℕ). unless_refused (first_of (rooms_check m room buoy_room) (room_check n counts_room)) (answered (some (map unnumbered ss))))
      (sym (same_count place_of ss)) (sym (length-map ss unnumbered))

  -- what is handed over of an answer's pieces
  abbrev handed : {A : Type 0} → (A → SphericalPoint) → Answer (List (List A)) → Answer (Option (List (StringOf A)))
  handed {A} pt a = and_then a (λ (xss : List (List A)). cut_into room buoy_room counts_room (unless_uncut (map (open_string pt) xss)))

  handed_without : (a : Answer (List (List Vertex))) → map_answer (each_piece unnumbered) (handed place_of a) ≡ handed itself (map_answer (map places_of) a)
  handed_without (refused n) = refl
  handed_without (answered xss) =
      into_without (unless_uncut (map (open_string place_of) xss))
      ∙ ap (cut_into room buoy_room counts_room)
      (each_unless_uncut unnumbered (map (open_string place_of) xss) ∙ ap unless_uncut (pieces_without xss))

pub cut_without : CutWithout
unfolding cut_at_marks cut_checked
cut_without v bs closed extra es room buoy_room counts_room =
    let xs = numbered (points v) bs in
    let marks = numbered (points extra) es in
    let handed_over = handed room buoy_room counts_room itself in
    map_unless (each_piece unnumbered) (string_check v bs) _
    ∙ where_passed (string_check v bs) _ _
    (λ h. map_unless (each_piece unnumbered) (points_check extra es) _
    ∙ where_passed (points_check extra es) _ _
    (λ k. handed_without room buoy_room counts_room (cut_at_each place_of marks (opened xs closed))
    ∙ ap handed_over
    (map_cut place_of itself marks (opened xs closed)
    ∙ ap₂ (cut_at_each itself) (points_places extra es k)
    (map-opened place_of xs closed ∙ ap (λ (ps : List SphericalPoint). opened ps closed) (lent_places v bs h)))))

-- strings and marks alike but for the values of their numbers get the same answer and pieces
pub cut_alike : (v : List Float) (bs cs : List ℕ) (closed : Bool) (extra : List Float) (es fs : List ℕ) (room buoy_room counts_room : ℕ)
    → length bs ≡ length cs → length es ≡ length fs
    → map_answer (each_piece unnumbered) (cut_at_marks v bs closed extra es room buoy_room counts_room)
    ≡ map_answer (each_piece unnumbered) (cut_at_marks v cs closed extra fs room buoy_room counts_room)
unfolding cut_checked
cut_alike v bs cs closed extra es fs room buoy_room counts_room same likewise =
    let pieces = handed room buoy_room counts_room itself (cut_at_each itself (points extra) (opened (points v) closed)) in
    cut_without v bs closed extra es room buoy_room counts_room
    ∙ ap₂ (λ (m n : ℕ). unless_refused m (unless_refused n pieces)) (string_alike v bs cs same) (points_alike extra es fs likewise)
    ∙ sym (cut_without v cs closed extra fs room buoy_room counts_room)
