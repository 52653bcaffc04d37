-- A string built without buoys, as it stands in a local list of 3,072 floats: there is always room, so that it is refused by its points alone, and what stands
-- there is the string of the definitions. The counting call does not refuse it, and answers its counts. Assumes nothing.
use mathlib.Core.Path.{◌≡◌, refl, sym, ap, ◌∙◌}
use mathlib.Core.Bool.{Bool}
use mathlib.Core.List.{List, ◌++◌}
use Prim.Native.Nat.{ℕ, zero, suc, ◌*◌, ◌/◌, ◌≤◌}
use native.Mathlib.Omega.{arith}
use lib.ListN.{length, take, drop, length-take, length-map}
use lib.Seq.{take_at}
use lib.Ieee.{Float, lt}
use Rattle.sphericalpoint.specs.declared.SphericalPoint.{SphericalPoint}
use Rattle.arcstring_check.specs.declared.check.Refusal.{Refusal}
use Rattle.arcstring.specs.declared.inner.vertex.Vertex.{Vertex}
use Rattle.arcstring_check.specs.Answer.{Answer, refused, answered, unless_refused, map_answer, leaves, refusal_number}
use Rattle.arcstring.specs.Points.{StringOf, ArcString, place_of, unnumbered, points, flat}
use Rattle.arcstring_check.specs.Check.{stored_check, build_check, margin_check, no_margin, room_check, most_floats}
use Rattle.arcstring_build.specs.Build.{built_string, build, built_result, built_floats}
use Rattle.arcstring_build.specs.BuildLaws.{AllF64}
use Rattle.arcstring_check.proofs.Answers.{refuse, pass}
use Rattle.arcstring_check.proofs.Rooms.{room_enough}
use Rattle.arcstring.proofs.Flat.{points-flat, length-flat}
use Rattle.arcstring_build.proofs.Builds.{built_count_lem}
use Rattle.arcstring_build.proofs.BuiltAccepted.{built_stored}
use Rattle.arcstring_build.proofs.BuildsWithout.{build_without, build_alone}
use Rattle.arcstring.specs.Leg.{legs}
use Rattle.arcstring_tally.specs.Pairs.{pairs_between, counts_of}
use Rattle.arcstring_listing.specs.Listing.{visited, counted}
use Rattle.textform_count.specs.Count.{counts_between, count_built}
use Rattle.textform_count.specs.Plain.{plain_build, plain_floats}

-- ---- an answer of `build`, by what was answered: m the check's number

told_refused : (n m : ℕ) (s : ArcString) → refused n ≡ built_result (unless_refused m (answered s)) → m ≡ n
told_refused n zero s h = absurd (let z : ◌≡◌ {A = ℕ} 0 1 = cc in omega arith)
told_refused n (suc m) s h = cc

told_built : (m : ℕ) (s : ArcString) (n : ℕ) (closed : Bool) → answered (n, closed) ≡ built_result (unless_refused m (answered s))
    → (m ≡ 0) × (n ≡ length s.vertices) × (closed ≡ s.closed)
told_built (suc m) s n closed h = absurd (let z : ◌≡◌ {A = ℕ} 0 1 = cc in omega arith)
told_built zero s n closed h =
    let e : ◌≡◌ {A = ℕ × Bool} (n, closed) (length s.vertices, s.closed) = cc in
    (refl, ap (λ (p : ℕ × Bool). p.0) e, ap (λ (p : ℕ × Bool). p.1) e)

-- the string of the points of v stands in the first floats of a list
pub record BuiltHere (v : List Float) (n : ℕ) (closed : Bool) (out : List Float) : Type 0 where
  pub accepted : build_check v ≡ 0
  pub few : 3 * n ≤ most_floats
  pub floats : length (take (3 * n) out) ≡ 3 * n
  pub within : 3 * n ≤ length out
  pub vertices : take (3 * n) out ≡ flat (built_string (points v)).vertices
  pub flag : closed ≡ (built_string (points v)).closed

module _ (v : List Float) where
  abbrev string : ArcString
  string = built_string (points v)

  -- as many numbers, and room in 3,072 floats and 1,024 numbers: the string is refused by its points alone
  roomy : (m : ℕ) → build_check v ≡ m
      → unless_refused m (unless_refused (room_check (3 * length string.vertices) most_floats) (answered string)) ≡ unless_refused m (answered string)
  roomy zero e =
      let few = built_count_lem v e in
      pass (room_check (3 * length string.vertices) most_floats) (answered string) (room_enough (3 * length string.vertices) most_floats (omega arith))
  roomy (suc m) e = refl

  module _ (none : List ℕ) (room buoy_room : ℕ) (same : length none ≡ length v / 3) (enough : room ≡ most_floats) (as-well : 3 * buoy_room ≡ most_floats) where
    plain : map_answer unnumbered (build v none room buoy_room) ≡ plain_build v
    unfolding plain_build
    plain =
        build_without v none room buoy_room ∙ build_alone SphericalPoint v none room buoy_room string same (omega arith)
        ∙ ap (λ (n : ℕ). unless_refused (build_check v) (unless_refused (room_check (3 * length string.vertices) n) (answered string))) enough
        ∙ roomy (build_check v) refl

    same_result : (a : Answer (StringOf Vertex)) → built_result a ≡ built_result (map_answer unnumbered a)
    same_result (refused n) = refl
    same_result (answered s) = ap (λ (n : ℕ). answered (n, s.closed)) (sym (length-map s.vertices place_of))

    same-floats : (a : Answer (StringOf Vertex)) → built_floats a ≡ plain_floats (map_answer unnumbered a)
    same-floats (refused n) = refl
    same-floats (answered s) = refl

    -- what is answered and left is what points alone give
    pub plain_built : (r : Answer (ℕ × Bool)) (old out : List Float) → r ≡ built_result (build v none room buoy_room)
        → out ≡ leaves (built_floats (build v none room buoy_room)) old
        → (r ≡ built_result (plain_build v)) × (out ≡ leaves (plain_floats (plain_build v)) old)
    plain_built r old out answer left = (
      answer ∙ same_result (build v none room buoy_room) ∙ ap built_result plain,
      left ∙ ap (λ (a : Answer (List Float)). leaves a old) (same-floats (build v none room buoy_room) ∙ ap plain_floats plain),
    )

  pub build_refused : (e : Refusal) → refused (refusal_number e) ≡ built_result (plain_build v) → build_check v ≡ refusal_number e
  unfolding plain_build
  build_refused e answer = told_refused (refusal_number e) (build_check v) string answer

  module _ (old out : List Float) (left : out ≡ leaves (plain_floats (plain_build v)) old) where
    pub build_stands : (n : ℕ) (closed : Bool) → answered (n, closed) ≡ built_result (plain_build v) → BuiltHere v n closed out
    unfolding plain_build
    build_stands n closed answer =
        let t = told_built (build_check v) string n closed answer in
        let few = built_count_lem v t.0 in
        let written : out ≡ flat string.vertices ++ drop (length (flat string.vertices)) old =
        left ∙ ap (λ (x : Answer ArcString). leaves (plain_floats x) old) (pass (build_check v) (answered string) t.0) in
        let l : length (flat string.vertices) ≡ 3 * n = omega (arith, length-flat string.vertices) in
        let here = ap (take (3 * n)) written ∙ take_at (flat string.vertices) (drop (length (flat string.vertices)) old) (3 * n) l in
        record {
          accepted = t.0;
          few = omega arith;
          floats = ap length here ∙ l;
          within = omega (arith, ap length here, length-take (3 * n) out);
          vertices = here;
          flag = t.2;
        }

-- ---- both built, and counted with no margin

none_passes : margin_check no_margin ≡ 0
unfolding margin_check lt
none_passes = refl

module _ (a b : List Float) where
  pub first_refused : (e : Refusal) → refused (refusal_number e) ≡ built_result (plain_build a) → refused (refusal_number e) ≡ count_built a b
  unfolding count_built
  first_refused e answer = refuse e (build_check a) _ (build_refused a e answer)

  pub second_refused : (e : Refusal) → build_check a ≡ 0 → refused (refusal_number e) ≡ built_result (plain_build b)
      → refused (refusal_number e) ≡ count_built a b
  unfolding count_built
  second_refused e ok answer = refuse e (build_check b) _ (build_refused b e answer) ∙ sym (pass (build_check a) _ ok)

  -- what is built is not refused by the counting call
  pub both_counted : (n m : ℕ) (closed other : Bool) (x y : List Float) → AllF64 a → AllF64 b → BuiltHere a n closed x → BuiltHere b m other y
      → counted (take (3 * n) x) closed (take (3 * m) y) other no_margin ≡ count_built a b
  unfolding counted visited count_built counts_between
  both_counted n m closed other x y fa fb first second =
      let s = string a in
      let t = string b in
      (λ i. counted (first.vertices i) (first.flag i) (second.vertices i) (second.flag i) no_margin)
      ∙ pass (stored_check (flat s.vertices)) _ (built_stored a fa first.accepted)
      ∙ pass (stored_check (flat t.vertices)) _ (built_stored b fb second.accepted)
      ∙ pass (margin_check no_margin) _ none_passes
      ∙ (λ i. answered (counts_of (pairs_between no_margin (legs (points-flat s.vertices i) s.closed) (legs (points-flat t.vertices i) t.closed))))
      ∙ sym (pass (build_check b) _ second.accepted)
      ∙ sym (pass (build_check a) _ first.accepted)
