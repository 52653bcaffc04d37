-- Splitting goes by the points alone: what is made of each element, its point kept, may be made before or after. Assumes nothing.
use mathlib.Core.Path.{◌≡◌, refl, sym, ap, ap₂, ◌∙◌}
use mathlib.Core.Bool.{Bool, true, false}
use mathlib.Core.List.{List, [], ◌∷◌, ◌++◌, map, map-append, map-map}
use mathlib.Core.Option.{Option, none, some}
use Prim.Native.Nat.{ℕ, ◌+◌}
use lib.ListN.{length, get_or, take, drop, length-map, get_or-map}
use lib.Dec.{ltb}
use lib.Ieee.{Float}
use Rattle.sphericalpoint.specs.declared.SphericalPoint.{SphericalPoint}
use Rattle.arcstring_check.specs.Answer.{Answer, refused, answered, unless_refused, map_answer, and_then, first_of, pick}
use Rattle.arcstring.specs.Points.{StringOf}
use Rattle.arcstring_check.specs.Check.{string_check, points_check, room_check, rooms_check}
use Rattle.arcstring.specs.Leg.{leg_count}
use Rattle.arcstring_check.proofs.Answers.{map_unless}
use Rattle.arcstring.proofs.Numbered.{map-take, map-drop}
use Rattle.arcstring_along.specs.OnString.{along_leg}
use Rattle.arcstring_insert.specs.Steps.{for_positions, leg_from, limited}
use Rattle.arcstring_insert.proofs.Natural.{map-limited, map_picked, map_positions, map_each, made}
use Rattle.arcstring_split_leg.specs.SplitLeg.{unless_uncut, each_piece}
use Rattle.arcstring_split_leg.proofs.Uncut.{each_unless_uncut, map_string, same_count}
use Rattle.arcstring.specs.Written.{points_in}
use Rattle.arcstring_piece.specs.Cut.{first_points, second_points, no_string, cut_at, cut_at_leg, cut_place, cut_string, cut_all}
use Rattle.arcstring_split.specs.Split.{pieces_into, split_into}

-- ---- cuts: what a list makes is made likewise

module _ {A B : Type 0} (f : A → B) where
  pub map_first : (x : A) (xs : List A) (i : ℕ) → map f (first_points x xs i) ≡ first_points (f x) (map f xs) i
  unfolding first_points
  map_first x xs i = map-append f (take (i + 1) xs) (x ∷ []) ∙ ap (λ (ys : List B). ys ++ (f x ∷ [])) (map-take f (i + 1) xs)

  second_by : (b : Bool) (xs : List A) (i : ℕ) → map f (pick b (drop (i + 1) xs) (take 1 xs)) ≡ pick b (drop (i + 1) (map f xs)) (take 1 (map f xs))
  second_by true xs i = map-drop f (i + 1) xs
  second_by false xs i = map-take f 1 xs

  pub map_second : (x : A) (xs : List A) (i : ℕ) → map f (second_points x xs i) ≡ second_points (f x) (map f xs) i
  unfolding second_points
  map_second x xs i =
      ap (λ (ys : List B). f x ∷ ys)
      (second_by (ltb (i + 1) (length xs)) xs i
      ∙ ap (λ (n : ℕ). pick (ltb (i + 1) n) (drop (i + 1) (map f xs)) (take 1 (map f xs))) (sym (length-map xs f)))

  module _ (pt : B → SphericalPoint) (built : List A → StringOf A) (built' : List B → StringOf B)
      (alike : (xs : List A) → map_string f (built xs) ≡ built' (map f xs)) where
    map-cut_at : (x : A) (xs : List A) (k i : ℕ) (ss : List (StringOf A))
        → map_answer (map (map_string f)) (cut_at (made f pt) built x xs k i ss) ≡ cut_at pt built' (f x) (map f xs) k i (map (map_string f) ss)
    unfolding cut_at
    map-cut_at x xs k i ss =
        let cut = take k ss ++ (built (first_points x xs i) ∷ built (second_points x xs i) ∷ drop (k + 1) ss) in
        let one : map_string f (built (first_points x xs i)) ≡ built' (first_points (f x) (map f xs) i) =
        alike (first_points x xs i) ∙ ap built' (map_first x xs i) in
        let two : map_string f (built (second_points x xs i)) ≡ built' (second_points (f x) (map f xs) i) =
        alike (second_points x xs i) ∙ ap built' (map_second x xs i) in
        let e : map (map_string f) cut
        ≡ take k (map (map_string f) ss)
        ++ (built' (first_points (f x) (map f xs) i) ∷ built' (second_points (f x) (map f xs) i) ∷ drop (k + 1) (map (map_string f) ss)) =
        map-append (map_string f) (take k ss) _ ∙ (λ j. map-take (map_string f) k ss j ++ (one j ∷ two j ∷ map-drop (map_string f) (k + 1) ss j)) in
        map-limited (map (map_string f)) (points_in cut) cut ∙ ap₂ limited (sym (same_count f cut) ∙ ap points_in e) e

    map_at_leg : (x : A) (xs : List A) (k i : ℕ) (ss : List (StringOf A))
        → map_answer (map (map_string f)) (cut_at_leg (made f pt) built x xs k i ss) ≡ cut_at_leg pt built' (f x) (map f xs) k i (map (map_string f) ss)
    unfolding cut_at_leg
    map_at_leg x xs k i ss =
        map_picked (map (map_string f)) (along_leg (made f pt x) (leg_from (map (made f pt) xs) i)) (cut_at (made f pt) built x xs k i ss) (answered ss)
        ∙ ap₂
        (λ (ps : List SphericalPoint) (a : Answer (List (StringOf B))). pick (along_leg (made f pt x) (leg_from ps i)) a (answered (map (map_string f) ss)))
        (sym (map-map pt f xs)) (map-cut_at x xs k i ss)

    map_place : (x : A) (k : ℕ) (ss : List (StringOf A))
        → map_answer (map (map_string f)) (cut_place (made f pt) built x k ss) ≡ cut_place pt built' (f x) k (map (map_string f) ss)
    unfolding cut_place
    map_place x k ss =
        let copy = get_or ss k no_string in
        let vs = copy.vertices in
        let all = map (map_string f) ss in
        let e : get_or (map (map_string f) ss) k no_string ≡ map_string f copy = get_or-map (map_string f) ss k no_string in
        map_positions (map (map_string f)) (cut_at_leg (made f pt) built x vs k) (cut_at_leg pt built' (f x) (map f vs) k) (map_at_leg x vs k)
        0 (leg_count (length vs) copy.closed) ss
        ∙ ap (λ (n : ℕ). for_positions (cut_at_leg pt built' (f x) (map f vs) k) 0 (leg_count n copy.closed) all) (sym (length-map vs f))
        ∙ ap (λ (c : StringOf B). for_positions (cut_at_leg pt built' (f x) c.vertices k) 0 (leg_count (length c.vertices) c.closed) all) (sym e)

    map-cut_string : (x : A) (ss : List (StringOf A))
        → map_answer (map (map_string f)) (cut_string (made f pt) built x ss) ≡ cut_string pt built' (f x) (map (map_string f) ss)
    unfolding cut_string
    map-cut_string x ss =
        map_positions (map (map_string f)) (cut_place (made f pt) built x) (cut_place pt built' (f x)) (map_place x) 0 (length ss) ss
        ∙ ap (λ (n : ℕ). for_positions (cut_place pt built' (f x)) 0 n (map (map_string f) ss)) (sym (length-map ss (map_string f)))

    pub map-cut_all : (extra : List A) (s : StringOf A)
        → map_answer (map (map_string f)) (cut_all (made f pt) built extra s) ≡ cut_all pt built' (map f extra) (map_string f s)
    unfolding cut_all
    map-cut_all extra s = map_each (map (map_string f)) f (cut_string (made f pt) built) (cut_string pt built') map-cut_string extra (s ∷ [])

  -- ---- the checks of a split, and what it answers

  module _ (room buoy_room counts_room flags_room : ℕ) where
    -- the check of m points in n pieces
    abbrev rooms : ℕ → ℕ → ℕ
    rooms m n = first_of (rooms_check m room buoy_room) (first_of (room_check n counts_room) (room_check n flags_room))

    map-pieces_into : (o : Option (List (StringOf A)))
        → map_answer (each_piece (map_string f)) (pieces_into room buoy_room counts_room flags_room o)
        ≡ pieces_into room buoy_room counts_room flags_room (each_piece (map_string f) o)
    map-pieces_into none = refl
    map-pieces_into (some ss) =
        map_unless (each_piece (map_string f)) (rooms (points_in ss) (length ss)) (answered (some ss))
        ∙ ap₂ (λ (m n : ℕ). unless_refused (rooms m n) (answered (some (map (map_string f) ss)))) (sym (same_count f ss)) (sym (length-map ss (map_string f)))

    map_pieces : (a : Answer (List (StringOf A)))
        → map_answer (each_piece (map_string f)) (and_then a (λ (ss : List (StringOf A)). pieces_into room buoy_room counts_room flags_room (unless_uncut ss)))
        ≡ and_then (map_answer (map (map_string f)) a) (λ (ss : List (StringOf B)). pieces_into room buoy_room counts_room flags_room (unless_uncut ss))
    map_pieces (refused n) = refl
    map_pieces (answered ss) = map-pieces_into (unless_uncut ss) ∙ ap (pieces_into room buoy_room counts_room flags_room) (each_unless_uncut (map_string f) ss)

    pub map-split_into : (v : List Float) (bs : List ℕ) (extra : List Float) (es : List ℕ) (a : Answer (List (StringOf A)))
        → map_answer (each_piece (map_string f)) (split_into v bs extra es room buoy_room counts_room flags_room a)
        ≡ split_into v bs extra es room buoy_room counts_room flags_room (map_answer (map (map_string f)) a)
    unfolding split_into
    map-split_into v bs extra es a =
        map_unless (each_piece (map_string f)) (string_check v bs) _
        ∙ ap (unless_refused (string_check v bs))
        (map_unless (each_piece (map_string f)) (points_check extra es) _ ∙ ap (unless_refused (points_check extra es)) (map_pieces a))
