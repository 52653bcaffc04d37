-- Building never depends on the numbers: without them it is building over points; and the numbers of what is built are those of the vertices that are kept,
-- which are the first. Assumes nothing.
use mathlib.Core.Path.{◌≡◌, refl, sym, ap, ap₂, ◌∙◌}
use mathlib.Core.Bool.{Bool, true, false}
use mathlib.Core.List.{List, [], ◌∷◌, map}
use Prim.Native.Nat.{ℕ, ◌-◌, ◌/◌}
use native.Mathlib.Omega.{arith}
use lib.Dec.{ltb}
use lib.ListN.{length, take, length-map}
use lib.Seq.{length-take-le, take_all}
use lib.Ieee.{Float}
use Rattle.sphericalpoint.specs.declared.SphericalPoint.{SphericalPoint}
use Rattle.sphericalpoint.specs.Point.{normalized_unless_short}
use Rattle.arcstring.specs.declared.inner.vertex.Vertex.{Vertex}
use Rattle.arcstring_check.specs.Answer.{answered, unless_refused, map_answer, first_of, number_if}
use Rattle.arcstring.specs.Points.{StringOf, ArcString, numbered, place_of, places_of, buoys_of, unnumbered, points}
use Rattle.arcstring_check.specs.Check.{list_check, building_check, rooms_check}
use Rattle.arcstring_build.specs.Build.{normalized_all, ends_meet, built_of, built_vertices, built_string, normalized_vertex, built_numbered}
use Rattle.arcstring_build.specs.Build.{flagged, build_into, build, build_flagged}
use Rattle.arcstring_build.specs.BuoyLaws.{BuildWithout, FlaggedWithout, BuildAlone, BuiltBuoys, BuildBuoys}
use Rattle.arcstring_check.proofs.Answers.{map_unless, where_passed}
use Rattle.arcstring_check.proofs.Checks.{building_alone, building_buoys}
use Rattle.arcstring.proofs.Flat.{count_points}
use Rattle.arcstring.proofs.Numbered.{map-take, all_places, all_buoys}
use Rattle.arcstring.proofs.WithoutBuoys.{buoys_alike, rooms_alone}

-- ---- what is built of vertices

-- whatever is made of each element, normalising kept, may be made before or after
module _ {A B : Type 0} (f : A → B) (norm : A → A) (morn : B → B) (turned : (x : A) → f (norm x) ≡ morn (f x)) where
  map_norm : (xs : List A) → map f (map norm xs) ≡ map morn (map f xs)
  map_norm [] = refl
  map_norm (x ∷ xs) = ap₂ (λ (y : B) (ys : List B). y ∷ ys) (turned x) (map_norm xs)

  map-built_of : (meet : Bool) (xs : List A) → map f (built_of norm meet xs) ≡ built_of morn meet (map f xs)
  map-built_of false xs = map_norm xs
  map-built_of true xs =
      let n : length (map norm xs) - 1 ≡ length (map morn (map f xs)) - 1 =
      ap (λ (k : ℕ). k - 1) (length-map xs norm ∙ sym (length-map xs f) ∙ sym (length-map (map f xs) morn)) in
      map_norm (take (length (map norm xs) - 1) (map norm xs))
      ∙ ap (map morn) (map-take f (length (map norm xs) - 1) (map norm xs) ∙ ap₂ take n (map_norm xs))

pub built_places : (vs : List Vertex) → places_of (built_numbered vs).vertices ≡ (built_string (places_of vs)).vertices
unfolding built_numbered built_string built_vertices
built_places vs = map-built_of place_of normalized_vertex normalized_unless_short (λ x. refl) (ends_meet (normalized_all (places_of vs))) vs

-- without the numbers: vertices, near list and flag
pub built_unnumbered : (vs : List Vertex) → unnumbered (built_numbered vs) ≡ built_string (places_of vs)
unfolding built_numbered built_string
built_unnumbered vs =
    ap (λ (ps : List SphericalPoint). record { vertices = ps; near = (built_string (places_of vs)).near; closed = (built_string (places_of vs)).closed })
    (built_places vs)

pub built_count_same : (vs : List Vertex) → length (built_numbered vs).vertices ≡ length (built_string (places_of vs)).vertices
built_count_same vs = sym (length-map (built_numbered vs).vertices place_of) ∙ ap length (built_places vs)

-- ---- its numbers

same_buoys : (vs : List Vertex) → buoys_of (map normalized_vertex vs) ≡ buoys_of vs
same_buoys [] = refl
same_buoys (x ∷ vs) = ap (λ (bs : List ℕ). x.buoy ∷ bs) (same_buoys vs)

first_buoys : (meet : Bool) (vs : List Vertex)
    → buoys_of (built_of normalized_vertex meet vs) ≡ take (length (built_of normalized_vertex meet vs)) (buoys_of vs)
first_buoys false vs =
    same_buoys vs
    ∙ sym (take_all (length (map normalized_vertex vs)) (buoys_of vs) (omega (arith, length-map vs normalized_vertex, length-map vs (λ (x : Vertex). x.buoy))))
first_buoys true vs =
    let once = map normalized_vertex vs in
    let k = length once - 1 in
    let n : length (map normalized_vertex (take k once)) ≡ k = length-map (take k once) normalized_vertex ∙ length-take-le k once (omega arith) in
    same_buoys (take k once) ∙ map-take (λ (x : Vertex). x.buoy) k once ∙ ap₂ take (sym n) (same_buoys vs)

pub built_buoys_lem : BuiltBuoys
unfolding built_numbered
built_buoys_lem vs =
    first_buoys (built_string (places_of vs)).closed vs ∙ ap (λ (n : ℕ). take n (buoys_of vs)) (built_count_same vs)

-- ---- the calls

-- after the same checks
module _ (v : List Float) (bs : List ℕ) (room buoy_room : ℕ) where
  into_without : (s : StringOf Vertex) → map_answer unnumbered (build_into v bs room buoy_room s) ≡ build_into v bs room buoy_room (unnumbered s)
  unfolding build_into
  into_without s =
      map_unless unnumbered (building_check v bs) (unless_refused (rooms_check (length s.vertices) room buoy_room) (answered s))
      ∙ ap (unless_refused (building_check v bs))
      (map_unless unnumbered (rooms_check (length s.vertices) room buoy_room) (answered s)
      ∙ ap (λ (n : ℕ). unless_refused (rooms_check n room buoy_room) (answered (unnumbered s))) (sym (length-map s.vertices place_of)))

  -- where the list is accepted is all that matters
  into_where : {A : Type 0} (s t : StringOf A) → (building_check v bs ≡ 0 → s ≡ t) → build_into v bs room buoy_room s ≡ build_into v bs room buoy_room t
  unfolding build_into
  into_where {A} s t same =
      where_passed (building_check v bs) _ _
      (λ h. ap (λ (u : StringOf A). unless_refused (rooms_check (length u.vertices) room buoy_room) (answered u)) (same h))

  as_many : building_check v bs ≡ 0 → length bs ≡ length (points v)
  as_many h = building_buoys v bs h ∙ sym (count_points v)

  over_points : building_check v bs ≡ 0 → unnumbered (built_numbered (numbered (points v) bs)) ≡ built_string (points v)
  over_points h = built_unnumbered (numbered (points v) bs) ∙ ap built_string (all_places (points v) bs (as_many h))

-- how many numbers there are is all that the checks look at
pub into_alike : {A : Type 0} (v : List Float) (bs cs : List ℕ) (room buoy_room : ℕ) (s : StringOf A) → length bs ≡ length cs
    → build_into v bs room buoy_room s ≡ build_into v cs room buoy_room s
unfolding build_into building_check
into_alike v bs cs room buoy_room s same =
    ap (λ (n : ℕ). unless_refused (list_check (first_of n (number_if (ltb (length v / 3) 2) 2)) v)
    (unless_refused (rooms_check (length s.vertices) room buoy_room) (answered s)))
    (buoys_alike v bs cs same)

pub build_without : BuildWithout
unfolding build
build_without v bs room buoy_room = into_without v bs room buoy_room _ ∙ into_where v bs room buoy_room _ _ (over_points v bs room buoy_room)

pub flagged_without : FlaggedWithout
unfolding build_flagged flagged
flagged_without v bs flag room buoy_room =
    into_without v bs room buoy_room _ ∙ into_where v bs room buoy_room _ _ (λ h. ap (flagged flag) (over_points v bs room buoy_room h))

-- as many numbers, and room for them: the checks of the points alone
pub build_alone : BuildAlone
unfolding build_into
build_alone A v bs room buoy_room s same enough =
    ap₂ (λ (m n : ℕ). unless_refused m (unless_refused n (answered s))) (building_alone v bs same) (rooms_alone (length s.vertices) room buoy_room enough)

-- the numbers that are written
pub build_buoys : BuildBuoys
unfolding build build_into
build_buoys v bs room buoy_room =
    let s = built_numbered (numbered (points v) bs) in
    map_unless (λ (x : StringOf Vertex). buoys_of x.vertices) (building_check v bs) _
    ∙ where_passed (building_check v bs) _ _
    (λ h. let places = all_places (points v) bs (as_many v bs room buoy_room h) in
    let n : length s.vertices ≡ length (built_string (points v)).vertices =
    built_count_same (numbered (points v) bs) ∙ ap (λ (ps : List SphericalPoint). length (built_string ps).vertices) places in
    map_unless (λ (x : StringOf Vertex). buoys_of x.vertices) (rooms_check (length s.vertices) room buoy_room) (answered s)
    ∙ ap₂ (λ (k : ℕ) (cs : List ℕ). unless_refused (rooms_check k room buoy_room) (answered cs)) n
    (built_buoys_lem (numbered (points v) bs)
    ∙ ap₂ (λ (ps : List SphericalPoint) (cs : List ℕ). take (length (built_string ps).vertices) cs) places
    (all_buoys (points v) bs (as_many v bs room buoy_room h)))
    ∙ sym (map_unless (λ (x : ArcString). take (length x.vertices) bs)
    (rooms_check (length (built_string (points v)).vertices) room buoy_room) (answered (built_string (points v)))))
    ∙ sym (map_unless (λ (x : ArcString). take (length x.vertices) bs) (building_check v bs) _)
