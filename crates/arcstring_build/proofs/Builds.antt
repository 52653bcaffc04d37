-- Laws of building: the ends of a string, its vertices and how many there are, and what is written, from the checks. Assumes nothing.
use mathlib.Core.Path.{◌≡◌, refl, sym, ap, ap₂, ◌∙◌}
use mathlib.Core.Bool.{Bool, true, false}
use mathlib.Core.List.{List, [], ◌∷◌, ◌++◌, map}
use Prim.Native.Nat.{ℕ, zero, suc, ◌-◌, ◌*◌, ◌/◌, ◌≤◌, ◌<◌}
use native.Mathlib.Omega.{arith}
use lib.ListN.{length, get_or, take, drop, length-map}
use lib.Seq.{length-take-le, take_all, get_or-take}
use lib.Ieee.{Float}
use mir.Val.{bool_byte}
use Rattle.sphericalpoint.specs.declared.SphericalPoint.{SphericalPoint}
use Rattle.sphericalpoint.specs.Vector.{xyz_eq}
use Rattle.sphericalpoint.specs.Point.{normalized_unless_short}
use Rattle.arcstring_check.specs.declared.check.Refusal.{Refusal}
use Rattle.arcstring_check.specs.Answer.{Answer, refused, answered, unless_refused, map_answer, leaves, pick, refusal_number}
use Rattle.arcstring_check.specs.Check.{build_check, building_check, rooms_check}
use Rattle.arcstring.specs.declared.inner.vertex.Vertex.{Vertex}
use Rattle.arcstring.specs.Points.{StringOf, numbered, place_of, places_of, buoys_of, points, flat, point_at, no_point}
use Rattle.arcstring.specs.Splice.{splice}
use Rattle.arcstring_build.specs.Build.{normalized_all, ends_meet, built_vertices, built_string, built_numbered, build_into, build, build_flagged, flagged}
use Rattle.arcstring_build.specs.Build.{built_result, built_floats, built_buoys}
use Rattle.arcstring.proofs.Flat.{point_at_lem, length-points, count_points, points-flat, take-points, length-flat}
use Rattle.arcstring_check.proofs.Answers.{stopped, went_on}
use Rattle.arcstring_check.proofs.Checks.{build_whole, build_two, building_passed, building_buoys}
use Rattle.arcstring.proofs.Splices.{splice_front}
use Rattle.arcstring.proofs.Moves.{length_mapped, map_written}
use Rattle.arcstring.proofs.Numbered.{all_places, all_buoys}
use Rattle.arcstring_build.proofs.BuildsWithout.{built_places, built_count_same, built_buoys_lem}

mapped_at : (f : SphericalPoint → SphericalPoint) (ps : List SphericalPoint) (k : ℕ) (d : SphericalPoint) → k < length ps
    → get_or (map f ps) k d ≡ f (get_or ps k d)
mapped_at f [] k d h = absurd (omega arith)
mapped_at f (p ∷ ps) zero d h = refl
mapped_at f (p ∷ ps) (suc k) d h = mapped_at f ps k d (omega arith)

normalized_at : (v : List Float) (n k : ℕ) → length v ≡ 3 * n → k < n → get_or (normalized_all (points v)) k no_point ≡ normalized_unless_short (point_at v k)
normalized_at v n k whole h =
    mapped_at normalized_unless_short (points v) k no_point (omega (arith, length-points n v whole)) ∙ ap normalized_unless_short
    (point_at_lem v k no_point (omega arith))

ends_at : (v : List Float) (n : ℕ) → length v ≡ 3 * n → 1 ≤ n →
    ends_meet (normalized_all (points v)) ≡ xyz_eq (normalized_unless_short (point_at v 0)) (normalized_unless_short (point_at v (n - 1)))
unfolding ends_meet
ends_at v n whole some =
    let l : length (normalized_all (points v)) - 1 ≡ n - 1 = omega (arith, length-map (points v) normalized_unless_short, length-points n v whole) in
    rw (l, normalized_at v n 0 whole some, normalized_at v n (n - 1) whole (omega arith))

-- whether the ends meet, from the points at both
pub ends_of : (v : List Float) (n : ℕ) (a b p q : SphericalPoint) (r : Bool) → length v ≡ 3 * n → 1 ≤ n →
    a ≡ point_at v 0 → p ≡ normalized_unless_short a → b ≡ point_at v (n - 1) → q ≡ normalized_unless_short b → r ≡ xyz_eq p q
    → r ≡ ends_meet (normalized_all (points v))
ends_of v n a b p q r whole some ha hp hb hq hr = cc (ends_at v n whole some)

-- the first m points normalised twice
pub closed_of : (v : List Float) (m : ℕ) (old mid last : List Float) → 3 * m ≤ length v → mid ≡ flat (normalized_all (points (take (3 * m) v))) ++ drop
    (3 * m) old →
    last ≡ flat (normalized_all (points (take (3 * m) mid))) ++ drop (3 * m) mid
    → last ≡ flat (normalized_all (normalized_all (points (take (3 * m) v)))) ++ drop (3 * m) old
closed_of v m old mid last known once after =
    let ps = normalized_all (points (take (3 * m) v)) in
    map_written normalized_unless_short m old mid last (flat ps) (length_mapped normalized_unless_short m v known) once after
    ∙ ap (λ (qs : List SphericalPoint). flat (normalized_all qs) ++ drop (3 * m) old) (points-flat ps)

-- ---- the built string, by whether its ends meet

take-map : (f : SphericalPoint → SphericalPoint) (k : ℕ) (ps : List SphericalPoint) → map f (take k ps) ≡ take k (map f ps)
take-map f zero ps = refl
take-map f (suc k) [] = refl
take-map f (suc k) (p ∷ ps) = ap (λ (qs : List SphericalPoint). f p ∷ qs) (take-map f k ps)

module _ (v : List Float) (n : ℕ) (whole : length v ≡ 3 * n) where
  abbrev once : List SphericalPoint
  once = normalized_all (points v)

  length_first : (m : ℕ) → m ≤ n → length (normalized_all (points (take (3 * m) v))) ≡ m
  length_first m h =
      length-map (points (take (3 * m) v)) normalized_unless_short ∙ length-points m (take (3 * m) v) (length-take-le (3 * m) v (omega arith))

  pub closed_vertices : ends_meet once ≡ true → normalized_all (normalized_all (points (take (3 * (n - 1)) v))) ≡ (built_string (points v)).vertices
  unfolding built_string built_vertices
  closed_vertices meet =
      let k : n - 1 ≡ length once - 1 = omega (arith, length-map (points v) normalized_unless_short, length-points n v whole) in
      ap (λ (ps : List SphericalPoint). normalized_all (normalized_all ps)) (take-points (n - 1) v)
      ∙ ap normalized_all (take-map normalized_unless_short (n - 1) (points v))
      ∙ ap (λ (m : ℕ). normalized_all (take m once)) k
      ∙ ap (λ (b : Bool). pick b (normalized_all (take (length once - 1) once)) once) (sym meet)

  pub closed_length : ends_meet once ≡ true → length (built_string (points v)).vertices ≡ n - 1
  closed_length meet =
      ap length (sym (closed_vertices meet))
      ∙ length-map (normalized_all (points (take (3 * (n - 1)) v))) normalized_unless_short
      ∙ length_first (n - 1) (omega arith)

  pub open_vertices : ends_meet once ≡ false → normalized_all (points (take (3 * n) v)) ≡ (built_string (points v)).vertices
  unfolding built_string built_vertices
  open_vertices apart =
      ap (λ (w : List Float). normalized_all (points w)) (take_all (3 * n) v (omega arith))
      ∙ ap (λ (b : Bool). pick b (normalized_all (take (length once - 1) once)) once) (sym apart)

  pub open_length : ends_meet once ≡ false → length (built_string (points v)).vertices ≡ n
  open_length apart = ap length (sym (open_vertices apart)) ∙ length_first n (omega arith)

  -- vertex k, from point k
  abbrev picked_at : Bool → ℕ → SphericalPoint
  picked_at b k = get_or (pick b (normalized_all (take (length once - 1) once)) once) k no_point

  pub closed_vertex : (k : ℕ) → ends_meet once ≡ true → k < n - 1
      → get_or (built_string (points v)).vertices k no_point ≡ normalized_unless_short (normalized_unless_short (point_at v k))
  unfolding built_string built_vertices
  closed_vertex k meet h =
      let l : length once ≡ n = length-map (points v) normalized_unless_short ∙ length-points n v whole in
      ap (λ (b : Bool). picked_at b k) meet
      ∙ mapped_at normalized_unless_short (take (length once - 1) once) k no_point (omega (arith, length-take-le (length once - 1) once (omega arith)))
      ∙ ap normalized_unless_short (get_or-take (length once - 1) once k no_point (omega arith) ∙ normalized_at v n k whole (omega arith))

  pub open_vertex : (k : ℕ) → ends_meet once ≡ false → k < n
      → get_or (built_string (points v)).vertices k no_point ≡ normalized_unless_short (point_at v k)
  unfolding built_string built_vertices
  open_vertex k apart h = ap (λ (b : Bool). picked_at b k) apart ∙ normalized_at v n k whole h

-- how many vertices a built string has
module _ (v : List Float) (ok : build_check v ≡ 0) where
  count_by : (b : Bool) → ends_meet (normalized_all (points v)) ≡ b
      → (1 ≤ length (built_string (points v)).vertices) × (length (built_string (points v)).vertices ≤ 1024)
  count_by true e =
      let w = build_whole v ok in
      let two = build_two v ok in
      let l = closed_length v (length v / 3) w.triples e in
      (omega arith, omega arith)
  count_by false e =
      let w = build_whole v ok in
      let two = build_two v ok in
      let l = open_length v (length v / 3) w.triples e in
      (omega arith, omega arith)

  pub built_count_lem : (1 ≤ length (built_string (points v)).vertices) × (length (built_string (points v)).vertices ≤ 1024)
  built_count_lem = count_by (ends_meet (normalized_all (points v))) refl

pub closed_flag : (ps : List SphericalPoint) → ends_meet (normalized_all ps) ≡ (built_string ps).closed
unfolding built_string
closed_flag ps = refl

-- one point is dropped where its ends meet
pub kept_few : (n : ℕ) (closed : Bool) → 1 ≤ n → bool_byte closed ≤ n
kept_few n true some = some
kept_few n false some = omega arith

-- the built string, by whether its ends meet
module _ (v : List Float) (n m : ℕ) (closed : Bool) (whole : length v ≡ 3 * n) (meet : closed ≡ ends_meet (normalized_all (points v)))
    (kept : m ≡ n - bool_byte closed) where
  pub kept_length : length (built_string (points v)).vertices ≡ m
  kept_length = go closed meet kept
    where
      go : (b : Bool) → b ≡ ends_meet (normalized_all (points v)) → m ≡ n - bool_byte b → length (built_string (points v)).vertices ≡ m
      go true e k = closed_length v n whole (sym e) ∙ sym k
      go false e k = open_length v n whole (sym e) ∙ omega arith

  pub kept_closed : closed ≡ true → normalized_all (normalized_all (points (take (3 * m) v))) ≡ (built_string (points v)).vertices
  kept_closed h =
      ap (λ (j : ℕ). normalized_all (normalized_all (points (take (3 * j) v)))) (kept ∙ ap (λ (b : Bool). n - bool_byte b) h)
      ∙ closed_vertices v n whole (sym meet ∙ h)

  pub kept_open : closed ≡ false → normalized_all (points (take (3 * m) v)) ≡ (built_string (points v)).vertices
  kept_open h =
      let j : n - bool_byte false ≡ n = omega arith in
      ap (λ (i : ℕ). normalized_all (points (take (3 * i) v))) (kept ∙ ap (λ (b : Bool). n - bool_byte b) h ∙ j)
      ∙ open_vertices v n whole (sym meet ∙ h)

-- ---- what a build answers, and the buffers

module _ (s : StringOf Vertex) (v : List Float) (buoys : List ℕ) (old : List Float) (old_buoys : List ℕ) where
  abbrev into : Answer (StringOf Vertex)
  into = build_into v buoys (length old) (length old_buoys) s

  -- the answer, and the buffers after it, are those of the definition
  abbrev Builds : Answer (ℕ × Bool) → List Float → List ℕ → Type 0
  Builds r out out_buoys = (r ≡ built_result into) × ((out ≡ leaves (built_floats into) old) × (out_buoys ≡ leaves (built_buoys into) old_buoys))

  by_answer : (a : Answer (StringOf Vertex)) → a ≡ into → Builds (built_result a) (leaves (built_floats a) old) (leaves (built_buoys a) old_buoys)
  by_answer a r = (
    ap built_result r,
    (ap (λ (b : Answer (StringOf Vertex)). leaves (built_floats b) old) r, ap (λ (b : Answer (StringOf Vertex)). leaves (built_buoys b) old_buoys) r),
  )

  pub refused_build : (e : Refusal) → refusal_number e ≡ building_check v buoys → Builds (refused (refusal_number e)) old old_buoys
  unfolding build_into
  refused_build e number = by_answer (refused (refusal_number e)) (stopped e (building_check v buoys) _ number)

  module _ (passed : 0 ≡ building_check v buoys) (m : ℕ) (long : length s.vertices ≡ m) where
    by_rooms : (a : Answer (StringOf Vertex)) → a ≡ unless_refused (rooms_check m (length old) (length old_buoys)) (answered s) → a ≡ into
    unfolding build_into
    by_rooms a h =
        h ∙ ap (λ (j : ℕ). unless_refused (rooms_check j (length old) (length old_buoys)) (answered s)) (sym long)
        ∙ went_on (building_check v buoys) _ passed

    cramped_build : (e : Refusal) → refusal_number e ≡ rooms_check m (length old) (length old_buoys) → Builds (refused (refusal_number e)) old old_buoys
    cramped_build e h = by_answer (refused (refusal_number e)) (by_rooms _ (stopped e (rooms_check m (length old) (length old_buoys)) _ h))

    written_build : (closed : Bool) (ps : List SphericalPoint) (bs : List ℕ) (out : List Float) (out_buoys : List ℕ)
        → 0 ≡ rooms_check m (length old) (length old_buoys)
        → closed ≡ s.closed → ps ≡ places_of s.vertices → bs ≡ buoys_of s.vertices → out ≡ flat ps ++ drop (3 * m) old → out_buoys ≡ bs ++ drop m old_buoys
        → Builds (answered (m, closed)) out out_buoys
    written_build closed ps bs out out_buoys h flag places numbers w u =
        let done = by_answer (answered s) (by_rooms _ (went_on (rooms_check m (length old) (length old_buoys)) _ h)) in
        let n : 3 * m ≡ length (flat (places_of s.vertices)) = omega (arith, length-flat (places_of s.vertices), length-map s.vertices place_of) in
        let j : m ≡ length (buoys_of s.vertices) = sym (length-map s.vertices (λ (x : Vertex). x.buoy) ∙ long) in (
          (λ i. answered (sym long i, flag i)) ∙ done.0,
          (w ∙ (λ i. flat (places i) ++ drop (n i) old) ∙ done.1.0, u ∙ (λ i. numbers i ++ drop (j i) old_buoys) ∙ done.1.1),
        )

-- an accepted list
module _ (v : List Float) (buoys : List ℕ) (passed : 0 ≡ building_check v buoys) where
  pub accepted_whole : length v ≡ 3 * (length v / 3)
  accepted_whole = (build_whole v (building_passed v buoys (sym passed))).triples

  pub accepted_two : 2 ≤ length v / 3
  accepted_two = build_two v (building_passed v buoys (sym passed))

  pub accepted_buoys : length buoys ≡ length v / 3
  accepted_buoys = building_buoys v buoys (sym passed)

  as_many : length buoys ≡ length (points v)
  as_many = accepted_buoys ∙ sym (count_points v)

  places : places_of (numbered (points v) buoys) ≡ points v
  places = all_places (points v) buoys as_many

  abbrev made : StringOf Vertex
  made = built_numbered (numbered (points v) buoys)

  -- the string that it makes, of m vertices
  module _ (old : List Float) (old_buoys : List ℕ) (m : ℕ) (count : length (built_string (points v)).vertices ≡ m) where
    long : length made.vertices ≡ m
    long = built_count_same (numbered (points v) buoys) ∙ ap (λ (qs : List SphericalPoint). length (built_string qs).vertices) places ∙ count

    pub build_short : (e : Refusal) → refusal_number e ≡ rooms_check m (length old) (length old_buoys)
        → Builds made v buoys old old_buoys (refused (refusal_number e)) old old_buoys
    build_short = cramped_build made v buoys old old_buoys passed m long

    pub build_done : (closed : Bool) (out : List Float) (out_buoys : List ℕ) → 0 ≡ rooms_check m (length old) (length old_buoys)
        → closed ≡ ends_meet (normalized_all (points v)) → m ≤ length buoys
        → out ≡ flat (built_string (points v)).vertices ++ drop (3 * m) old → out_buoys ≡ splice old_buoys 0 (take m (drop 0 buoys))
        → Builds made v buoys old old_buoys (answered (m, closed)) out out_buoys
    unfolding built_numbered
    build_done closed out out_buoys room flag few w u =
        let numbers : take m buoys ≡ buoys_of made.vertices =
        sym (built_buoys_lem (numbered (points v) buoys)
        ∙ ap₂ (λ (qs : List SphericalPoint) (bs : List ℕ). take (length (built_string qs).vertices) bs) places (all_buoys (points v) buoys as_many)
        ∙ ap (λ (n : ℕ). take n buoys) count) in
        written_build made v buoys old old_buoys passed m long closed (built_string (points v)).vertices (take m buoys) out out_buoys room
        (flag ∙ closed_flag (points v) ∙ ap (λ (qs : List SphericalPoint). (built_string qs).closed) (sym places))
        (sym (built_places (numbered (points v) buoys) ∙ ap (λ (qs : List SphericalPoint). (built_string qs).vertices) places))
        numbers w (u ∙ splice_front old_buoys m (take m buoys) (length-take-le m buoys few))

-- ---- the same with a given flag

flag_into : (m n : ℕ) (flag : Bool) (s : StringOf Vertex)
    → unless_refused m (unless_refused n (answered (flagged flag s))) ≡ map_answer (flagged flag) (unless_refused m (unless_refused n (answered s)))
flag_into zero zero flag s = refl
flag_into zero (suc n) flag s = refl
flag_into (suc m) n flag s = refl

flag_floats : (flag : Bool) (a : Answer (StringOf Vertex)) → built_floats a ≡ built_floats (map_answer (flagged flag) a)
unfolding flagged
flag_floats flag (refused n) = refl
flag_floats flag (answered s) = refl

flag_buoys : (flag : Bool) (a : Answer (StringOf Vertex)) → built_buoys a ≡ built_buoys (map_answer (flagged flag) a)
unfolding flagged
flag_buoys flag (refused n) = refl
flag_buoys flag (answered s) = refl

flag_refused : (flag : Bool) (a : Answer (StringOf Vertex)) (n : ℕ) → refused n ≡ built_result a → refused n ≡ built_result (map_answer (flagged flag) a)
flag_refused flag (refused m) n h = h
flag_refused flag (answered s) n h = absurd (let z : ◌≡◌ {A = ℕ} 0 1 = cc in omega arith)

flag_answered : (flag : Bool) (a : Answer (StringOf Vertex)) (n : ℕ) (b : Bool)
    → answered (n, b) ≡ built_result a → answered (n, flag) ≡ built_result (map_answer (flagged flag) a)
unfolding flagged
flag_answered flag (refused m) n b h = absurd (let z : ◌≡◌ {A = ℕ} 0 1 = cc in omega arith)
flag_answered flag (answered s) n b h =
    let e : ◌≡◌ {A = ℕ × Bool} (n, b) (length s.vertices, s.closed) = cc in ap (λ (p : ℕ × Bool). answered (p.0, flag)) e

module _ (v : List Float) (buoys : List ℕ) (room buoy_room : ℕ) (flag : Bool) where
  abbrev plain : Answer (StringOf Vertex)
  plain = build v buoys room buoy_room

  abbrev with_flag : Answer (StringOf Vertex)
  with_flag = build_flagged v buoys flag room buoy_room

  -- a build with a flag is the build, and then the flag
  flag_after : map_answer (flagged flag) plain ≡ with_flag
  unfolding build build_flagged build_into flagged
  flag_after =
      let s = built_numbered (numbered (points v) buoys) in
      sym (flag_into (building_check v buoys) (rooms_check (length s.vertices) room buoy_room) flag s)

  pub flagged_refused : (n : ℕ) → refused n ≡ built_result plain → refused n ≡ built_result with_flag
  flagged_refused n h = flag_refused flag plain n h ∙ ap built_result flag_after

  pub flagged_answered : (n : ℕ) (b : Bool) → answered (n, b) ≡ built_result plain → answered (n, flag) ≡ built_result with_flag
  flagged_answered n b h = flag_answered flag plain n b h ∙ ap built_result flag_after

  -- the buffers are the build's
  pub flagged-leaves : (old out : List Float) (old_buoys out_buoys : List ℕ)
      → (out ≡ leaves (built_floats plain) old) × (out_buoys ≡ leaves (built_buoys plain) old_buoys)
      → (out ≡ leaves (built_floats with_flag) old) × (out_buoys ≡ leaves (built_buoys with_flag) old_buoys)
  flagged-leaves old out old_buoys out_buoys h = (
    h.0 ∙ ap (λ (a : Answer (List Float)). leaves a old) (flag_floats flag plain ∙ ap built_floats flag_after),
    h.1 ∙ ap (λ (a : Answer (List ℕ)). leaves a old_buoys) (flag_buoys flag plain ∙ ap built_buoys flag_after),
  )
