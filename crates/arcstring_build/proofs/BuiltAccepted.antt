-- Vertex k of a built string is built from point k: of length 1, nearly, or a short point as it was. Either way it is in range, so what is built passes the
-- checks of a stored string. The theorems of `specs/BuildLaws.antt`, and `built_stored` for callers. Assumes nothing.
use mathlib.Core.Path.{◌≡◌, refl, sym, ap, subst, ◌∙◌}
use mathlib.Core.Bool.{Bool, true, false, not}
use mathlib.Core.List.{List, [], ◌∷◌}
use Prim.Native.Nat.{ℕ, zero, suc, ◌+◌, ◌*◌, ◌/◌, ◌<◌}
use native.Mathlib.Omega.{arith}
use lib.Dec.{T}
use lib.ListN.{length, get_or}
use lib.Ieee.{Float, nan, lt}
use lib.Ieee.Fits.{and_l, and_r}
use Rattle.ieee754.specs.Bound.{AtMost}
use Rattle.sphericalpoint.specs.declared.SphericalPoint.{SphericalPoint}
use Rattle.sphericalpoint.specs.Vector.{equality_tolerance, xyz_length}
use Rattle.unit_length.specs.UnitPoint.{IsF64, InRange, UnitPoint}
use Rattle.unit_length.specs.UnitLaws.{VertexOf}
use Rattle.unit_length.proofs.UnitLength.{vertex_once, vertex_twice}
use Rattle.arcstring_check.specs.Answer.{answered, map_answer}
use Rattle.arcstring.specs.Points.{ArcString, unnumbered, points, flat, point_at, no_point}
use Rattle.arcstring_check.specs.Check.{in_range, all_in_range, stored_check, build_check, building_check, rooms_check}
use Rattle.arcstring_build.specs.Build.{normalized_all, ends_meet, built_string, flagged, build_into}
use Rattle.arcstring_build.specs.BuildLaws.{AllF64, BuiltVertices, Stored, BuiltAccepted, FlaggedAccepted}
use Rattle.arcstring_check.proofs.Answers.{both_passed}
use Rattle.arcstring_check.proofs.Checks.{range_bound, bound_range, build_whole, building_passed}
use Rattle.arcstring.proofs.Flat.{points-stored}
use Rattle.arcstring_build.proofs.BuildsWithout.{build_without, flagged_without}
use Rattle.arcstring_build.proofs.Builds.{closed_vertex, closed_length, open_vertex, open_length, built_count_lem}

-- ---- a list of coordinates in range

bound_at : (v : List Float) → T (all_in_range v) → (i : ℕ) → i < length v → AtMost 0 (get_or v i nan)
unfolding all_in_range
bound_at [] h i l = absurd (omega arith)
bound_at (x ∷ v) h zero l = range_bound x (and_l (in_range x) (all_in_range v) h)
bound_at (x ∷ v) h (suc i) l = bound_at v (and_r (in_range x) (all_in_range v) h) i (omega arith)

flat_range : (ps : List SphericalPoint) → ((k : ℕ) → k < length ps → InRange (get_or ps k no_point)) → all_in_range (flat ps) ≡ true
unfolding all_in_range
flat_range [] h = refl
flat_range (p ∷ ps) h =
    let r = h 0 (omega arith) in
    let rest = flat_range ps (λ k l. h (suc k) (omega arith)) in
    rw (bound_range p.x r.x_in_range, bound_range p.y r.y_in_range, bound_range p.z r.z_in_range, rest)

-- ---- the vertices

-- a vertex that is built from a point in range is in range
vertex_in_range : (a b : SphericalPoint) → InRange a → VertexOf a b → InRange b
vertex_in_range a b r h = go (lt (xyz_length a) equality_tolerance) h.long_is_unit h.short_stays
  where
    go : (short : Bool) → (T (not short) → UnitPoint b) → (T short → b ≡ a) → InRange b
    go true long stays = rw (stays tt) r
    go false long stays = (long tt).in-range

module _ (v : List Float) (f64 : AllF64 v) (ok : build_check v ≡ 0) where
  abbrev n : ℕ
  n = length v / 3

  abbrev vertices : List SphericalPoint
  vertices = (built_string (points v)).vertices

  point_f64 : (k : ℕ) → IsF64 (point_at v k)
  point_f64 k = record { x_fits = f64 (3 * k); y_fits = f64 (3 * k + 1); z_fits = f64 (3 * k + 2) }

  point-in_range : (k : ℕ) → k < n → InRange (point_at v k)
  point-in_range k h =
      let w = build_whole v ok in
      let at = bound_at v (subst T (sym w.in-range) tt) in
      record { x_in_range = at (3 * k) (omega arith); y_in_range = at (3 * k + 1) (omega arith); z_in_range = at (3 * k + 2) (omega arith) }

  -- there is a point k, and vertex k is built from it
  vertex_by : (b : Bool) → ends_meet (normalized_all (points v)) ≡ b → (k : ℕ) → k < length vertices
      → (k < n) × VertexOf (point_at v k) (get_or vertices k no_point)
  vertex_by true meet k h =
      let w = (build_whole v ok).triples in
      let l = closed_length v n w meet in
      let i : k < n = omega arith in
      (i, rw (closed_vertex v n w k meet (omega arith)) (vertex_twice (point_at v k) (point_f64 k) (point-in_range k i)))
  vertex_by false apart k h =
      let w = (build_whole v ok).triples in
      let i : k < n = omega (arith, open_length v n w apart) in
      (i, rw (open_vertex v n w k apart i) (vertex_once (point_at v k) (point_f64 k) (point-in_range k i)))

  built_vertex : (k : ℕ) → k < length vertices → (k < n) × VertexOf (point_at v k) (get_or vertices k no_point)
  built_vertex = vertex_by (ends_meet (normalized_all (points v))) refl

  pub built_stored : stored_check (flat (built_string (points v)).vertices) ≡ 0
  built_stored =
      let n = built_count_lem v ok in
      points-stored vertices n.0 n.1
      (flat_range vertices (λ k h. let b = built_vertex k h in vertex_in_range (point_at v k) (get_or vertices k no_point) (point-in_range k b.0) b.1))

-- ---- the theorems

pub built_vertices_lem : BuiltVertices
built_vertices_lem v f64 ok k h = (built_vertex v f64 ok k h).1

-- a string whose near list is its vertices, and whose vertices pass where the points do: as it is answered, so it is stored
into_accepted : (s t : ArcString) (v : List Float) (buoys : List ℕ) (room buoy_room : ℕ) → s.near ≡ s.vertices
    → (build_check v ≡ 0 → stored_check (flat s.vertices) ≡ 0)
    → build_into v buoys room buoy_room s ≡ answered t → Stored t
unfolding build_into
into_accepted s t v buoys room buoy_room same h e =
    let passed = both_passed (building_check v buoys) (rooms_check (length s.vertices) room buoy_room) s t e in
    let there = h (building_passed v buoys passed.0) in
    subst Stored passed.2 (record { vertices_stored = there; near_stored = rw same there })

pub built_accepted : BuiltAccepted
unfolding built_string
built_accepted v f64 buoys room buoy_room s e =
    into_accepted (built_string (points v)) (unnumbered s) v buoys room buoy_room refl (built_stored v f64)
    (sym (build_without v buoys room buoy_room) ∙ ap (map_answer unnumbered) e)

pub flagged_accepted : FlaggedAccepted
unfolding flagged built_string
flagged_accepted v f64 buoys flag room buoy_room s e =
    into_accepted (flagged flag (built_string (points v))) (unnumbered s) v buoys room buoy_room refl (built_stored v f64)
    (sym (flagged_without v buoys flag room buoy_room) ∙ ap (map_answer unnumbered) e)
