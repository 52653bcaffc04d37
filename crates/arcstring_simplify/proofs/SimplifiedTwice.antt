-- Simplifying once more what the call has written: its vertices and numbers pass the checks again, and it answers them as they are. Assumes nothing.
use mathlib.Core.Path.{◌≡◌, refl, sym, ap, ap₂, ◌∙◌}
use mathlib.Core.Bool.{Bool}
use mathlib.Core.List.{List, [], ◌∷◌}
use Prim.Native.Nat.{ℕ, zero, suc, ◌*◌, ◌/◌, ◌≤◌}
use native.Mathlib.Omega.{arith}
use lib.ListN.{length, length-map}
use lib.Ieee.{Float}
use Rattle.sphericalpoint.specs.declared.SphericalPoint.{SphericalPoint}
use Rattle.arcstring_check.specs.Answer.{Answer, refused, answered, unless_refused, map_answer, and_then}
use Rattle.arcstring.specs.declared.inner.vertex.Vertex.{Vertex}
use Rattle.arcstring.specs.Points.{itself, numbered, place_of, places_of, buoys_of, points, flat}
use Rattle.arcstring_check.specs.Check.{string_check, rooms_check, into_rooms, lent}
use Rattle.arcstring_check.proofs.Answers.{both_passed, both_numbers}
use Rattle.arcstring.proofs.Flat.{points-flat, length-flat}
use Rattle.arcstring_check.proofs.Checks.{string_alone, string-stored}
use Rattle.arcstring_check.proofs.Rooms.{room_enough}
use Rattle.arcstring.proofs.WithoutBuoys.{lent_places}
use Rattle.arcstring_rounds.specs.Rounds.{simplified}
use Rattle.arcstring_simplify.specs.Simplify.{simplify}
use Rattle.arcstring_simplify.specs.SimplifyLaws.{SimplifyTwice}
use Rattle.arcstring_rounds.proofs.Natural.{map-simplified}
use Rattle.arcstring_rounds.proofs.Simplified.{simplified_again}
use Rattle.arcstring_simplify.proofs.SimplifiedAccepted.{simplified_accepted}

-- vertices taken apart into places and numbers, and put together again
numbered_again : (vs : List Vertex) → numbered (places_of vs) (buoys_of vs) ≡ vs
numbered_again [] = refl
numbered_again (x ∷ vs) = ap (λ (ws : List Vertex). x ∷ ws) (numbered_again vs)

-- ---- what is answered to a string that is lent

module _ {A : Type 0} (v : List Float) (bs : List ℕ) (room buoy_room : ℕ) where
  -- it passed the checks, and this is what was answered before the rooms were looked at
  answered_by : (n : ℕ) (a : Answer (List A)) (xs : List A) → unless_refused n (and_then a (into_rooms room buoy_room)) ≡ answered xs
      → (n ≡ 0) × (a ≡ answered xs)
  unfolding into_rooms
  answered_by n (answered ys) xs h = let p = both_passed n (rooms_check (length ys) room buoy_room) ys xs h in (p.0, ap answered p.2)
  answered_by zero (refused m) xs h = absurd (let z : ◌≡◌ {A = ℕ} 0 1 = cc in omega arith)
  answered_by (suc n) (refused m) xs h = absurd (let z : ◌≡◌ {A = ℕ} 0 1 = cc in omega arith)

  lent_answered : (a : Answer (List A)) (xs : List A) → lent v bs room buoy_room a ≡ answered xs → (string_check v bs ≡ 0) × (a ≡ answered xs)
  unfolding lent
  lent_answered a xs h = answered_by (string_check v bs) a xs h

  -- and an accepted string that both rooms hold is answered
  lent_whole : (a : Answer (List A)) (xs : List A) → string_check v bs ≡ 0 → a ≡ answered xs → 3 * length xs ≤ room → length xs ≤ buoy_room
      → lent v bs room buoy_room a ≡ answered xs
  unfolding lent into_rooms rooms_check
  lent_whole a xs accepted h long many =
      ap₂ (λ (n : ℕ) (b : Answer (List A)). unless_refused n (and_then b (into_rooms room buoy_room))) accepted h
      ∙ ap (λ (n : ℕ). unless_refused n (answered xs)) (both_numbers (room_enough (3 * length xs) room long) (room_enough (length xs) buoy_room many))

-- ---- what is written is accepted again

written_accepted : (v : List Float) (bs : List ℕ) (closed : Bool) (vs : List Vertex) → string_check v bs ≡ 0
    → simplified place_of closed (numbered (points v) bs) ≡ answered vs → string_check (flat (places_of vs)) (buoys_of vs) ≡ 0
written_accepted v bs closed vs accepted h =
    let places : simplified itself closed (points v) ≡ answered (places_of vs) =
    ap (simplified itself closed) (sym (lent_places v bs accepted))
    ∙ sym (map-simplified place_of place_of itself (λ x. refl) closed (numbered (points v) bs))
    ∙ ap (map_answer places_of) h in
    let many : length (buoys_of vs) ≡ length (flat (places_of vs)) / 3 =
    omega (arith, length-map vs (λ (x : Vertex). x.buoy), length-map vs place_of, length-flat (places_of vs)) in
    string_alone (flat (places_of vs)) (buoys_of vs) many ∙ simplified_accepted v closed (places_of vs) (string-stored v bs accepted) places

pub simplify_twice : SimplifyTwice
unfolding simplify
simplify_twice v bs closed room buoy_room vs h r s long many =
    let first = lent_answered v bs room buoy_room (simplified place_of closed (numbered (points v) bs)) vs h in
    let again : numbered (points (flat (places_of vs))) (buoys_of vs) ≡ vs =
    ap (λ (ps : List SphericalPoint). numbered ps (buoys_of vs)) (points-flat (places_of vs)) ∙ numbered_again vs in
    lent_whole (flat (places_of vs)) (buoys_of vs) r s (simplified place_of closed (numbered (points (flat (places_of vs))) (buoys_of vs))) vs
    (written_accepted v bs closed vs first.0 first.1)
    (ap (simplified place_of closed) again ∙ simplified_again Vertex place_of closed (numbered (points v) bs) vs first.1) long many
