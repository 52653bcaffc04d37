-- Inserting goes by the points alone: what is made of each element, its point kept, may be made before or after. Assumes nothing.
use mathlib.Core.Path.{◌≡◌, refl, sym, ap, ap₂, ◌∙◌}
use mathlib.Core.Bool.{Bool, true, false}
use mathlib.Core.List.{List, [], ◌∷◌, ◌++◌, map, map-append, map-map}
use Prim.Native.Nat.{ℕ, zero, suc, ◌+◌}
use lib.ListN.{length, take, drop, length-map}
use lib.Dec.{ltb}
use Rattle.sphericalpoint.specs.declared.SphericalPoint.{SphericalPoint}
use Rattle.arcstring_check.specs.Answer.{Answer, answered, map_answer, and_then, number_if, pick}
use Rattle.arcstring.specs.Leg.{leg_count}
use Rattle.arcstring_check.specs.Check.{most_points}
use Rattle.arcstring_check.proofs.Answers.{map_unless, map_then}
use Rattle.arcstring.proofs.Numbered.{map-take, map-drop}
use Rattle.arcstring_along.specs.OnString.{along_leg}
use Rattle.arcstring_insert.specs.Steps.{for_each, for_positions, leg_from, limited}
use Rattle.arcstring_insert.specs.Insert.{insert_at, insert_walk, insert_point, inserted}

-- ---- steps

module _ {A B : Type 0} (g : A → B) where
  pub map-limited : (n : ℕ) (x : A) → map_answer g (limited n x) ≡ limited n (g x)
  unfolding limited
  map-limited n x = map_unless g (number_if (ltb most_points n) 3) (answered x)

  pub map_picked : (b : Bool) (x y : Answer A) → map_answer g (pick b x y) ≡ pick b (map_answer g x) (map_answer g y)
  map_picked true x y = refl
  map_picked false x y = refl

  pub map_positions : (F : ℕ → A → Answer A) (G : ℕ → B → Answer B) → ((k : ℕ) (x : A) → map_answer g (F k x) ≡ G k (g x))
      → (k n : ℕ) (x : A) → map_answer g (for_positions F k n x) ≡ for_positions G k n (g x)
  unfolding for_positions
  map_positions F G same k zero x = refl
  map_positions F G same k (suc n) x =
      map_then g (F k x) (for_positions F (k + 1) n) (for_positions G (k + 1) n) (map_positions F G same (k + 1) n)
      ∙ ap (λ (a : Answer B). and_then a (for_positions G (k + 1) n)) (same k x)

  pub map_each : {C D : Type 0} (h : C → D) (F : C → A → Answer A) (G : D → B → Answer B) → ((c : C) (x : A) → map_answer g (F c x) ≡ G (h c) (g x))
      → (cs : List C) (x : A) → map_answer g (for_each F cs x) ≡ for_each G (map h cs) (g x)
  unfolding for_each
  map_each h F G same [] x = refl
  map_each h F G same (c ∷ cs) x =
      map_then g (F c x) (for_each F cs) (for_each G (map h cs)) (map_each h F G same cs) ∙ ap (λ (a : Answer B). and_then a (for_each G (map h cs))) (same c x)

-- ---- insertion: an element's point is the point of what is made of it

module _ {A B : Type 0} (f : A → B) where
  map-inserted_at : (k : ℕ) (x : A) (xs : List A) → map f (insert_at k x xs) ≡ insert_at k (f x) (map f xs)
  unfolding insert_at
  map-inserted_at k x xs =
      map-append f (take k xs) (x ∷ drop k xs) ∙ ap₂ (λ (ys zs : List B). ys ++ (f x ∷ zs)) (map-take f k xs) (map-drop f k xs)

  map_put : (k : ℕ) (x : A) (xs : List A)
      → map_answer (map f) (limited (length (insert_at k x xs)) (insert_at k x xs))
      ≡ limited (length (insert_at k (f x) (map f xs))) (insert_at k (f x) (map f xs))
  map_put k x xs =
      map-limited (map f) (length (insert_at k x xs)) (insert_at k x xs)
      ∙ ap₂ limited (sym (length-map (insert_at k x xs) f) ∙ ap length (map-inserted_at k x xs)) (map-inserted_at k x xs)

  module _ (pt : B → SphericalPoint) where
    abbrev pub made : A → SphericalPoint
    made x = pt (f x)

    map_walk : (x : A) (k left : ℕ) (xs : List A) → map_answer (map f) (insert_walk made x k left xs) ≡ insert_walk pt (f x) k left (map f xs)
    unfolding insert_walk
    map_walk x k zero xs = refl
    map_walk x k (suc left) xs =
        let put = limited (length (insert_at k x xs)) (insert_at k x xs) in
        let next = insert_walk pt (f x) (k + 2) left in
        let after = and_then (limited (length (insert_at k (f x) (map f xs))) (insert_at k (f x) (map f xs))) next in
        map_picked (map f) (along_leg (made x) (leg_from (map made xs) k)) (and_then put (insert_walk made x (k + 2) left))
        (insert_walk made x (k + 1) left xs)
        ∙ ap₂ (λ (a b : Answer (List B)). pick (along_leg (made x) (leg_from (map made xs) k)) a b)
        (map_then (map f) put (insert_walk made x (k + 2) left) next (map_walk x (k + 2) left) ∙ ap (λ (a : Answer (List B)). and_then a next) (map_put k x xs))
        (map_walk x (k + 1) left xs)
        ∙ ap (λ (ps : List SphericalPoint). pick (along_leg (made x) (leg_from ps k)) after (insert_walk pt (f x) (k + 1) left (map f xs)))
        (sym (map-map pt f xs))

    map-point : (closed : Bool) (x : A) (xs : List A) → map_answer (map f) (insert_point made closed x xs) ≡ insert_point pt closed (f x) (map f xs)
    unfolding insert_point
    map-point closed x xs =
        map_walk x 0 (leg_count (length xs) closed) xs ∙ ap (λ (n : ℕ). insert_walk pt (f x) 0 (leg_count n closed) (map f xs)) (sym (length-map xs f))

    pub map-inserted : (closed : Bool) (extra xs : List A) → map_answer (map f) (inserted made closed extra xs) ≡ inserted pt closed (map f extra) (map f xs)
    unfolding inserted
    map-inserted closed extra xs = map_each (map f) f (insert_point made closed) (insert_point pt closed) (map-point closed) extra xs
