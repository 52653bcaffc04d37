-- A simplified copy of an accepted string, as it stands in a local list after `simplify_points`: it is the copy of the definitions, and
-- accepted. Assumes nothing.
use mathlib.Core.Path.{◌≡◌, refl, sym, ap, ◌∙◌}
use mathlib.Core.List.{List}
use Prim.Native.Nat.{ℕ, ◌*◌, ◌≤◌}
use native.Mathlib.Omega.{arith}
use lib.ListN.{length, take, drop}
use lib.Seq.{take_at}
use lib.Ieee.{Float}
use Rattle.sphericalpoint.specs.declared.SphericalPoint.{SphericalPoint}
use Rattle.arcstring_check.specs.declared.check.Refusal.{Refusal}
use Rattle.arcstring_check.specs.Answer.{Answer, refused, answered, and_then, map_answer, leaves, refusal_number}
use Rattle.arcstring.specs.Points.{itself, ArcString, points, flat, copied}
use Rattle.arcstring_check.specs.Check.{stored_check, into_room}
use Rattle.arcstring.specs.Written.{written_result, written_floats}
use Rattle.arcstring_check.proofs.Answers.{pass}
use Rattle.arcstring_check.proofs.Checks.{stored_whole}
use Rattle.arcstring.proofs.Flat.{points-flat, length-flat}
use Rattle.arcstring_check.proofs.Rooms.{room_into}
use Rattle.arcstring_along.specs.declared.inner.stored.Stored.{Stored}
use Rattle.arcstring_along.specs.OnString.{stored, string_of}
use Rattle.arcstring_rounds.specs.Rounds.{simplified, simplify_points}
use Rattle.arcstring_equals.specs.Simplified.{simplified_string}
use Rattle.arcstring_simplify.proofs.SimplifiedAccepted.{simplified_accepted}

-- ---- a written answer, by what was answered

-- x the answer, r as the code has it, out what it left
record Standing (x : Answer (List SphericalPoint)) (n : ℕ) (out : List Float) : Type 0 where
  qs : List SphericalPoint
  is : x ≡ answered qs
  count : n ≡ length qs
  here : take (3 * n) out ≡ flat qs

told_refused : (x : Answer (List SphericalPoint)) (n : ℕ) → refused n ≡ written_result x → x ≡ refused n
told_refused (refused m) n h = let e : m ≡ n = cc in ap refused e
told_refused (answered qs) n h = absurd (let z : ◌≡◌ {A = ℕ} 0 1 = cc in omega arith)

told_answered : (x : Answer (List SphericalPoint)) (n : ℕ) (old out : List Float) → answered n ≡ written_result x → out ≡ leaves (written_floats x) old
    → Standing x n out
told_answered (refused m) n old out h w = absurd (let z : ◌≡◌ {A = ℕ} 0 1 = cc in omega arith)
told_answered (answered qs) n old out h w =
    let e : n ≡ length qs = cc in
    let l : length (flat qs) ≡ 3 * n = omega (arith, length-flat qs) in
    record {
      qs = qs;
      is = refl;
      count = e;
      here = ap (take (3 * n)) w ∙ take_at (flat qs) (drop (length (flat qs)) old) (3 * n) l;
    }

-- ---- the copy of an accepted string, simplified into a list of m floats, 3,072 at least

module _ (s : Stored) (m : ℕ) (enough : 3072 ≤ m) where
  -- there is always room
  roomy : (x : Answer (List SphericalPoint)) → simplified itself s.closed (points s.v.now) ≡ x → and_then x (into_room m) ≡ x
  roomy (refused n) e = refl
  roomy (answered qs) e =
      room_into m qs (omega (arith, length-flat qs, (stored_whole (flat qs) (simplified_accepted s.v.now s.closed qs s.accepted.0 e)).at_most))

  whole : simplify_points s.v.now s.closed m ≡ simplified itself s.closed (points s.v.now)
  unfolding simplify_points
  whole =
      pass (stored_check s.v.now) (and_then (simplified itself s.closed (points s.v.now)) (into_room m)) s.accepted.0
      ∙ roomy (simplified itself s.closed (points s.v.now)) refl

-- a copy with these vertices
abbrev with_vertices : Stored → List SphericalPoint → ArcString
with_vertices s ps = record { vertices = ps; near = points s.v.now; closed = s.closed }

copy_is : (s : Stored) → simplified_string (copied (string_of s)) ≡ map_answer (with_vertices s) (simplified itself s.closed (points s.v.now))
unfolding simplified_string copied
copy_is s = refl

pub copy_refused : (s : Stored) (m : ℕ) (e : Refusal) → refused (refusal_number e) ≡ written_result (simplify_points s.v.now s.closed m) → 3072 ≤ m
    → simplified_string (copied (string_of s)) ≡ refused (refusal_number e)
copy_refused s m e told enough =
    copy_is s ∙ ap (map_answer (with_vertices s)) (sym (whole s m enough) ∙ told_refused (simplify_points s.v.now s.closed m) (refusal_number e) told)

module _ (s : Stored) (m n : ℕ) (old out : List Float) (told : answered n ≡ written_result (simplify_points s.v.now s.closed m))
    (now : out ≡ leaves (written_floats (simplify_points s.v.now s.closed m)) old) (enough : 3072 ≤ m) where
  standing : Standing (simplify_points s.v.now s.closed m) n out
  standing = told_answered (simplify_points s.v.now s.closed m) n old out told now

  accepted : stored_check (flat standing.qs) ≡ 0
  accepted = simplified_accepted s.v.now s.closed standing.qs s.accepted.0 (sym (whole s m enough) ∙ standing.is)

  pub copy_accepted : stored_check (take (3 * n) out) ≡ 0
  copy_accepted = ap stored_check standing.here ∙ accepted

  pub copy_stands : simplified_string (copied (string_of s)) ≡ answered (stored (take (3 * n) out) s.v.now s.closed)
  copy_stands =
      let ps : standing.qs ≡ points (take (3 * n) out) = sym (ap points standing.here ∙ points-flat standing.qs) in
      copy_is s ∙ ap (map_answer (with_vertices s)) (sym (whole s m enough) ∙ standing.is)
      ∙ ap (λ (qs : List SphericalPoint). answered (with_vertices s qs)) ps

  -- so many floats are there
  pub copy_count : n ≤ 1024
  copy_count = let c = standing.count in omega (arith, length-flat standing.qs, (stored_whole (flat standing.qs) accepted).at_most)
