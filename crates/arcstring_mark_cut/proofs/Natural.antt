-- Cutting at marks goes by the points alone: what is made of each element, its point kept, may be made before or after. Assumes nothing.
use mathlib.Core.Path.{◌≡◌, refl, sym, ap, ap₂, ◌∙◌}
use mathlib.Core.Bool.{Bool, true, false, ◌||◌}
use mathlib.Core.List.{List, [], ◌∷◌, ◌++◌, map, map-append, map-map}
use mathlib.Core.Option
use mathlib.Core.Option.{Option, none, some}
use Prim.Native.Nat.{ℕ, ◌+◌, ◌-◌}
use lib.ListN.{length, get_or, take, length-map}
use Rattle.sphericalpoint.specs.declared.SphericalPoint.{SphericalPoint}
use Rattle.sphericalpoint.specs.Vector.{xyz_eq}
use Rattle.arcstring_check.specs.Answer.{map_answer, pick}
use Rattle.arcstring.specs.Points.{no_point}
use Rattle.arcstring.specs.Leg.{legs}
use Rattle.arcstring.proofs.Numbered.{map-take, map-drop}
use Rattle.arcstring_insert.specs.Steps.{limited}
use Rattle.arcstring_insert.proofs.Natural.{map-limited, map_each, made}
use Rattle.arcstring_mark.specs.Mark.{first_holding}
use Rattle.arcstring_mark_cut.specs.CutAtMarks.{opened, part_before, part_after, together, leg_holding, at_piece_end, cut_piece, cut_first}
use Rattle.arcstring_mark_cut.specs.CutAtMarks.{checked_cut, cut_at_mark, cut_at_each}

module _ {A B : Type 0} (f : A → B) where
  opened_by : (closed : Bool) (xs : List A) → map f (pick closed (take 1 xs) []) ≡ pick closed (take 1 (map f xs)) []
  opened_by true xs = map-take f 1 xs
  opened_by false xs = refl

  pub map-opened : (xs : List A) (closed : Bool) → map f (opened xs closed) ≡ opened (map f xs) closed
  unfolding opened
  map-opened xs closed = map-append f xs (pick closed (take 1 xs) []) ∙ ap (λ (ys : List B). map f xs ++ ys) (opened_by closed xs)

  -- ---- pieces

  map_before : (x : A) (i : ℕ) (xs : List A) → map f (part_before x i xs) ≡ part_before (f x) i (map f xs)
  unfolding part_before
  map_before x i xs = map-append f (take (i + 1) xs) (x ∷ []) ∙ ap (λ (ys : List B). ys ++ (f x ∷ [])) (map-take f (i + 1) xs)

  map_after : (x : A) (i : ℕ) (xs : List A) → map f (part_after x i xs) ≡ part_after (f x) i (map f xs)
  unfolding part_after
  map_after x i xs = ap (λ (ys : List B). f x ∷ ys) (map-drop f (i + 1) xs)

  same_together : (xss : List (List A)) → together (map (map f) xss) ≡ together xss
  same_together [] = refl
  same_together (xs ∷ xss) = ap₂ ◌+◌ (length-map xs f) (same_together xss)

  -- ---- one mark: an element's point is the point of what is made of it

  module _ (pt : B → SphericalPoint) (x : A) where
    map_holding : (xs : List A) → leg_holding (made f pt) x xs ≡ leg_holding pt (f x) (map f xs)
    unfolding leg_holding
    map_holding xs = ap (λ (ps : List SphericalPoint). first_holding (pt (f x)) (legs ps false)) (sym (map-map pt f xs))

    map_end : (xs : List A) → at_piece_end (made f pt) x xs ≡ at_piece_end pt (f x) (map f xs)
    unfolding at_piece_end
    map_end xs =
        ap (λ (ps : List SphericalPoint). xyz_eq (pt (f x)) (get_or ps 0 no_point) || xyz_eq (pt (f x)) (get_or ps (length ps - 1) no_point))
        (sym (map-map pt f xs))

    picked_by : (b : Bool) (cut : List (List A)) → Option.map (map (map f)) (pick b none (some cut)) ≡ pick b none (some (map (map f) cut))
    picked_by true cut = refl
    picked_by false cut = refl

    map-piece : (xs : List A) (xss : List (List A)) (o : Option ℕ) (later : Option (List (List A)))
        → Option.map (map (map f)) (cut_piece (made f pt) x xs xss o later)
        ≡ cut_piece pt (f x) (map f xs) (map (map f) xss) o (Option.map (map (map f)) later)
    map-piece xs xss none none = refl
    map-piece xs xss none (some yss) = refl
    map-piece xs xss (some i) later =
        picked_by (at_piece_end (made f pt) x xs) (part_before x i xs ∷ part_after x i xs ∷ xss)
        ∙ (λ j. pick (map_end xs j) none (some (map_before x i xs j ∷ map_after x i xs j ∷ map (map f) xss)))

    map_first : (xss : List (List A)) → Option.map (map (map f)) (cut_first (made f pt) x xss) ≡ cut_first pt (f x) (map (map f) xss)
    unfolding cut_first
    map_first [] = refl
    map_first (xs ∷ xss) =
        map-piece xs xss (leg_holding (made f pt) x xs) (cut_first (made f pt) x xss)
        ∙ ap₂ (cut_piece pt (f x) (map f xs) (map (map f) xss)) (map_holding xs) (map_first xss)

    map_checked : (xss : List (List A)) (o : Option (List (List A)))
        → map_answer (map (map f)) (checked_cut (made f pt) xss o) ≡ checked_cut pt (map (map f) xss) (Option.map (map (map f)) o)
    map_checked xss none = refl
    map_checked xss (some cut) =
        map-limited (map (map f)) (together cut) cut ∙ ap (λ (n : ℕ). limited n (map (map f) cut)) (sym (same_together cut))

    map_mark : (xss : List (List A)) → map_answer (map (map f)) (cut_at_mark (made f pt) x xss) ≡ cut_at_mark pt (f x) (map (map f) xss)
    unfolding cut_at_mark
    map_mark xss = map_checked xss (cut_first (made f pt) x xss) ∙ ap (checked_cut pt (map (map f) xss)) (map_first xss)

  pub map_cut : (pt : B → SphericalPoint) (marks xs : List A)
      → map_answer (map (map f)) (cut_at_each (made f pt) marks xs) ≡ cut_at_each pt (map f marks) (map f xs)
  unfolding cut_at_each
  map_cut pt marks xs = map_each (map (map f)) f (cut_at_mark (made f pt)) (cut_at_mark pt) (map_mark pt) marks (xs ∷ [])
