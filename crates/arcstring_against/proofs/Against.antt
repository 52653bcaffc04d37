-- Two strings held against each other: each vertex along a string, the ends near ends, and what these decide for `==`. Assumes nothing.
use Rattle.std.specs.Prelude.{Result}
use Rattle.std.specs.Result.{IsErrAnd}
use mathlib.Core.Path.{◌≡◌, refl, sym, ap, ap₂, ◌∙◌}
use mathlib.Core.Bool.{Bool, true, false, not, ◌&&◌, ◌||◌, and-true}
use mathlib.Core.List.{List, [], ◌∷◌}
use Prim.Native.Nat.{ℕ, ◌-◌, ◌≤◌, ◌<◌}
use native.Mathlib.Omega.{arith}
use lib.Dec.{ltb}
use lib.ListN.{length, get_or, drop, drop_of_length-le}
use lib.Ieee.{Float}
use borrow.Author.Tests.{lt-ltb, le-ltb}
use Rattle.sphericalpoint.specs.declared.SphericalPoint.{SphericalPoint}
use Rattle.sphericalpoint.specs.Point.{normalized_unless_short}
use Rattle.arcstring_check.specs.declared.check.Refusal.{Refusal}
use Rattle.arcstring_check.specs.Answer.{Answer, unless_refused, first_of, refusal_number, answer_of, pick}
use Rattle.arcstring_check.specs.Check.{stored_check}
use Rattle.arcstring_check.proofs.Checks.{stored_whole}
use Rattle.arcstring.specs.Points.{ArcString, points, point_at, no_point}
use Rattle.arcstring.proofs.Flat.{points-next, point_at_lem, length-points, count_points}
use Rattle.arcstring_near.specs.Near.{is_near}
use Rattle.arcstring.specs.declared.inner.vertex.Vertices.{Vertices}
use Rattle.arcstring_along.specs.declared.inner.stored.Stored.{Stored}
use Rattle.arcstring_along.specs.OnString.{near_some, along_string, stored, string_of}
use Rattle.std.specs.Bool.{MatchBool}
use Rattle.arcstring_along.proofs.ByPosition.{Stops, all_by_position}
use Rattle.arcstring_along.proofs.Accepted.{string_refused, string_accepted}
use Rattle.arcstring_along.proofs.NearEntries.{near_cons, near_one}
use Rattle.arcstring_against.specs.Against.{first_end, last_end, boundary, all_near, boundaries_meet, same_boundary, all_along, each_along, within_string}
use Rattle.arcstring_against.specs.Against.{apart, equal_strings, two_strings}

-- ---- two strings, refused or accepted; x what would follow, f the same of any two strings

module _ {A : Type 0} (a a_near b b_near : List Float) where
  pub first_string_refused : (r : Result A Refusal) (e : Refusal) (x : Answer A) → IsErrAnd r (λ f. f ≡ e)
      → refusal_number e ≡ first_of (stored_check a) (stored_check a_near) → answer_of r ≡ two_strings a a_near b b_near x
  unfolding two_strings
  first_string_refused r e x given number = string_refused r e a a_near _ given number

  module _ (s : Stored) {a_closed : Bool} (same : (s.v.now ≡ a) × (s.near.now ≡ a_near) × (s.closed ≡ a_closed)) where
    pub second_string_refused : (r : Result A Refusal) (e : Refusal) (x : Answer A) → IsErrAnd r (λ f. f ≡ e)
        → refusal_number e ≡ first_of (stored_check b) (stored_check b_near) → answer_of r ≡ two_strings a a_near b b_near x
    unfolding two_strings
    second_string_refused r e x given number =
        string_refused r e b b_near x given number
        ∙ string_accepted s (λ _. unless_refused (stored_check b) (unless_refused (stored_check b_near) x)) same

    pub both_strings_accepted : (t : Stored) {b_closed : Bool} (f : ArcString → ArcString → Answer A)
        → (t.v.now ≡ b) × (t.near.now ≡ b_near) × (t.closed ≡ b_closed)
        → f (string_of s) (string_of t) ≡ two_strings a a_near b b_near (f (stored a a_near a_closed) (stored b b_near b_closed))
    unfolding two_strings
    both_strings_accepted t {b_closed} f alike =
        string_accepted t (f (string_of s)) alike
        ∙ string_accepted s (λ u. unless_refused (stored_check b) (unless_refused (stored_check b_near) (f u (stored b b_near b_closed)))) same

-- ---- each vertex along a string, by position

all_stops : (s : ArcString) → Stops false (λ (p : SphericalPoint). along_string p s) (λ (ps : List SphericalPoint). all_along ps s)
unfolding all_along
all_stops s =
    record {
      at-end = refl;
      here = λ p ps h. ap (λ (b : Bool). b && all_along ps s) h;
      later = λ p ps h. ap (λ (b : Bool). b && all_along ps s) h;
    }

-- whether the vertex at k is along the string
abbrev pub VertexTold : Vertices → ArcString → Bool → ℕ → Type 0
VertexTold a s told k = along_string (point_at a.v.now k) s ≡ told

pub all_by_vertex : (a : Vertices) (s : ArcString) (r : Bool)
    → MatchBool r ((k : ℕ) → k < a.n → VertexTold a s true k) ((k : ℕ) × (k < a.n) × VertexTold a s false k) → r ≡ all_along (points a.v.now) s
all_by_vertex a s =
    all_by_position (point_at a.v.now) (λ k. drop k (points a.v.now)) a.n (λ k h. points-next a.n a.v.now k a.whole h)
    (drop_of_length-le (points a.v.now) (omega (arith, length-points a.n a.v.now a.whole))) (all_stops s)

-- of the vertices of a string, as the code has them: w their list
pub vertices_along : (s : ArcString) {v w : List Float} {x : Bool} → w ≡ v → x ≡ all_along (points w) s → x ≡ all_along (points v) s
vertices_along s e h = h ∙ ap (λ (u : List Float). all_along (points u) s) e

-- ---- the ends: p the vertex as the code has it, q what it normalises it to

module _ (string : Vertices) (p q : SphericalPoint) (some : 1 ≤ string.n) (normalised : q ≡ normalized_unless_short p) where
  pub end_first : p ≡ point_at string.v.now 0 → q ≡ first_end (points string.v.now)
  unfolding first_end
  end_first is =
      let e : get_or (points string.v.now) 0 no_point ≡ point_at string.v.now 0 = point_at_lem string.v.now 0 no_point (omega (arith, string.whole)) in cc

  pub end_last : p ≡ point_at string.v.now (string.n - 1) → q ≡ last_end (points string.v.now)
  unfolding last_end
  end_last is =
      let m : length (points string.v.now) ≡ string.n = length-points string.n string.v.now string.whole in
      let e : get_or (points string.v.now) (string.n - 1) no_point ≡ point_at string.v.now (string.n - 1) =
      point_at_lem string.v.now (string.n - 1) no_point (omega (arith, string.whole)) in
      cc

pub either_near : (p first last : SphericalPoint) (x y : Bool) → x ≡ is_near p first → y ≡ is_near p last → x || y ≡ near_some p (first ∷ last ∷ [])
either_near p first last x y hx hy = sym (near_cons p first (last ∷ []) ∙ ap₂ ◌||◌ (sym hx) (near_one p last ∙ sym hy))

-- of the left p and r, of the right first and last
pub ends_meet_ends : (ps qs : List SphericalPoint) (p r first last : SphericalPoint) (x y : Bool) → first ≡ first_end qs → last ≡ last_end qs
    → p ≡ first_end ps → x ≡ near_some p (first ∷ last ∷ []) → r ≡ last_end ps → y ≡ near_some r (first ∷ last ∷ [])
    → x && y ≡ all_near (boundary ps) (boundary qs)
unfolding all_near boundary
ends_meet_ends ps qs p r first last x y hf hl hp hx hr hy = cc (and-true (near_some (last_end ps) (boundary qs)))

-- ---- the boundaries by the flags

pub both_closed : (a b near : Bool) → a && b ≡ true → true ≡ boundaries_meet a b near
both_closed true true near h = refl
both_closed true false near h = sym h
both_closed false b near h = absurd (let z : ◌≡◌ {A = ℕ} 0 1 = cc in omega arith)

pub one_closed : (a b near : Bool) → a && b ≡ false → a || b ≡ true → false ≡ boundaries_meet a b near
one_closed true true near h g = sym h
one_closed true false near h g = refl
one_closed false true near h g = refl
one_closed false false near h g = absurd (let z : ◌≡◌ {A = ℕ} 0 1 = cc in omega arith)

pub both_open : (a b near r : Bool) → a || b ≡ false → r ≡ near → r ≡ boundaries_meet a b near
both_open true b near r h e = absurd (let z : ◌≡◌ {A = ℕ} 0 1 = cc in omega arith)
both_open false true near r h e = absurd (let z : ◌≡◌ {A = ℕ} 0 1 = cc in omega arith)
both_open false false near r h e = e

-- ---- neither within the other: x whether the left is within the right, y whether the right is within the left

module _ (a b : ArcString) (x : Bool) (left : x ≡ all_along a.vertices b) where
  pub first_within : x ≡ true → not x ≡ apart a b
  unfolding within_string
  first_within e = ap not e ∙ ap (λ (t : Bool). not t && not (within_string b a)) (sym e ∙ left)

  pub second_decides : (y : Bool) → x ≡ false → y ≡ all_along b.vertices a → not y ≡ apart a b
  unfolding within_string
  second_decides y e right = ap₂ (λ (s t : Bool). not s && not t) (sym e ∙ left) right

-- ---- `==`

-- x whether the vertices of the longer are along the shorter
module _ (shorter longer : ArcString) (x : Bool) (known : x ≡ all_along longer.vertices shorter) where
  pub each_stop : x ≡ false → x ≡ each_along shorter longer
  unfolding each_along
  each_stop e = e ∙ sym (ap (λ (t : Bool). t && all_along shorter.vertices longer) (sym known ∙ e))

  pub each_go : (r : Bool) → x ≡ true → r ≡ all_along shorter.vertices longer → r ≡ each_along shorter longer
  unfolding each_along
  each_go r e h = h ∙ sym (ap (λ (t : Bool). t && all_along shorter.vertices longer) (sym known ∙ e))

-- the shorter list holds the fewer vertices
pub fewer : (a b : Stored) → length a.v.now < length b.v.now → length (points a.v.now) < length (points b.v.now)
fewer a b h =
    omega (
      arith,
      count_points a.v.now,
      count_points b.v.now,
      (stored_whole a.v.now a.accepted.0).triples,
      (stored_whole b.v.now b.accepted.0).triples,
    )

pub no_fewer : (a b : Stored) → length b.v.now ≤ length a.v.now → length (points b.v.now) ≤ length (points a.v.now)
no_fewer a b h =
    omega (
      arith,
      count_points a.v.now,
      count_points b.v.now,
      (stored_whole a.v.now a.accepted.0).triples,
      (stored_whole b.v.now b.accepted.0).triples,
    )

-- m whether the boundaries meet
module _ (a b : Stored) (m : Bool) (known : m ≡ same_boundary (string_of a) (string_of b)) where
  equal_by : (t u : Bool) → m ≡ t → ltb (length (points a.v.now)) (length (points b.v.now)) ≡ u → equal_strings (string_of a) (string_of b) ≡ t && pick u
      (each_along (string_of a) (string_of b)) (each_along (string_of b) (string_of a))
  unfolding equal_strings
  equal_by t u e h =
      ap₂ (λ (x y : Bool). x && pick y (each_along (string_of a) (string_of b)) (each_along (string_of b) (string_of a))) (sym known ∙ e) h

  pub boundaries_differ : m ≡ false → false ≡ equal_strings (string_of a) (string_of b)
  boundaries_differ e = sym (equal_by false (ltb (length (points a.v.now)) (length (points b.v.now))) e refl)

  pub left_shorter : m ≡ true → length a.v.now < length b.v.now → each_along (string_of a) (string_of b) ≡ equal_strings (string_of a) (string_of b)
  left_shorter e h = sym (equal_by true true e (lt-ltb _ _ (fewer a b h)))

  pub left_no_shorter : m ≡ true → length b.v.now ≤ length a.v.now → each_along (string_of b) (string_of a) ≡ equal_strings (string_of a) (string_of b)
  left_no_shorter e h = sym (equal_by true false e (le-ltb _ _ (no_fewer a b h)))
