-- Simplifying goes by the points alone: what is made of each element, its point kept, may be made before or after. Assumes nothing.
use mathlib.Core.Path.{◌≡◌, refl, sym, ap, ap₂, ◌∙◌}
use mathlib.Core.Bool.{Bool, true, false}
use mathlib.Core.List.{List, [], ◌∷◌, ◌++◌, map, map-append}
use Prim.Native.Nat.{ℕ, zero, suc, ◌+◌, ◌*◌, ◌/◌}
use lib.ListN.{length, take, drop, length-map}
use lib.Dec.{ltb}
use lib.Ieee.{Float}
use Rattle.sphericalpoint.specs.declared.SphericalPoint.{SphericalPoint}
use Rattle.arcstring_check.specs.Answer.{Answer, refused, answered, map_answer, and_then, pick}
use Rattle.arcstring.specs.Points.{numbered, place_of, points, point_at}
use Rattle.arcstring.specs.Positions.{positions_from, vertex_at}
use Rattle.arcstring_check.proofs.Answers.{map_then}
use Rattle.arcstring.proofs.Numbered.{map-take, map-drop, all_positions}
use Rattle.arcstring_rounds.specs.Rounds.{unnecessary_positions, remove_at, remove_all, is_simple, rounds, simplified}

module _ {A B : Type 0} (f : A → B) where
  by_room : (b : Bool) (k : ℕ) (xs : List A)
      → map_answer (map f) (pick b (answered (take k xs ++ drop (k + 1) xs)) (refused 5))
      ≡ pick b (answered (take k (map f xs) ++ drop (k + 1) (map f xs))) (refused 5)
  by_room true k xs = ap answered (map-append f (take k xs) (drop (k + 1) xs) ∙ ap₂ (λ (ys zs : List B). ys ++ zs) (map-take f k xs) (map-drop f (k + 1) xs))
  by_room false k xs = refl

  map_removed_at : (k : ℕ) (xs : List A) → map_answer (map f) (remove_at k xs) ≡ remove_at k (map f xs)
  unfolding remove_at
  map_removed_at k xs =
      by_room (ltb k (length xs)) k xs
      ∙ ap (λ (n : ℕ). pick (ltb k n) (answered (take k (map f xs) ++ drop (k + 1) (map f xs))) (refused 5)) (sym (length-map xs f))

  pub map_removed : (us : List ℕ) (xs : List A) → map_answer (map f) (remove_all us xs) ≡ remove_all us (map f xs)
  unfolding remove_all
  map_removed [] xs = refl
  map_removed (u ∷ us) xs =
      map_then (map f) (remove_all us xs) (remove_at u) (remove_at u) (map_removed_at u)
      ∙ ap (λ (a : Answer (List B)). and_then a (remove_at u)) (map_removed us xs)

  module _ (pt : A → SphericalPoint) (qt : B → SphericalPoint) (same : (x : A) → qt (f x) ≡ pt x) where
    pub same_points : (xs : List A) → map qt (map f xs) ≡ map pt xs
    same_points [] = refl
    same_points (x ∷ xs) = ap₂ (λ (p : SphericalPoint) (ps : List SphericalPoint). p ∷ ps) (same x) (same_points xs)

    by_round : (b : Bool) (us : List ℕ) (xs : List A) (g : List A → Answer (List A)) (h : List B → Answer (List B))
        → ((ys : List A) → map_answer (map f) (g ys) ≡ h (map f ys))
        → map_answer (map f) (pick b (answered xs) (and_then (remove_all us xs) g)) ≡ pick b (answered (map f xs)) (and_then (remove_all us (map f xs)) h)
    by_round true us xs g h on = refl
    by_round false us xs g h on = map_then (map f) (remove_all us xs) g h on ∙ ap (λ (a : Answer (List B)). and_then a h) (map_removed us xs)

    map-rounds : (more : ℕ) (closed : Bool) (xs : List A) → map_answer (map f) (rounds pt more closed xs) ≡ rounds qt more closed (map f xs)
    unfolding rounds
    map-rounds zero closed xs = refl
    map-rounds (suc more) closed xs =
        by_round (is_simple (map pt xs) closed) (unnecessary_positions (map pt xs) closed) xs
        (rounds pt more closed) (rounds qt more closed) (map-rounds more closed)
        ∙ ap (λ (ps : List SphericalPoint). pick (is_simple ps closed) (answered (map f xs))
        (and_then (remove_all (unnecessary_positions ps closed) (map f xs)) (rounds qt more closed))) (sym (same_points xs))

    pub map-simplified : (closed : Bool) (xs : List A) → map_answer (map f) (simplified pt closed xs) ≡ simplified qt closed (map f xs)
    unfolding simplified
    map-simplified closed xs = map-rounds (length xs) closed xs ∙ ap (λ (n : ℕ). rounds qt n closed (map f xs)) (sym (length-map xs f))

-- the positions of a string's vertices, simplified by the points there, stand for the simplified vertices
pub at_positions : (v : List Float) (bs : List ℕ) (closed : Bool) → length v ≡ 3 * (length v / 3) → length bs ≡ length v / 3
    → map_answer (map (vertex_at v bs)) (simplified (point_at v) closed (positions_from 0 (length v / 3))) ≡ simplified place_of closed (numbered (points v) bs)
at_positions v bs closed whole same =
    map-simplified (vertex_at v bs) (point_at v) place_of (λ i. refl) closed (positions_from 0 (length v / 3))
    ∙ ap (simplified place_of closed) (all_positions v bs (length v / 3) whole same)
