-- The simplified vertices of an accepted string are accepted again. Assumes nothing.
use mathlib.Core.Path.{◌≡◌, refl, sym, ap, ap₂, ◌∙◌}
use mathlib.Core.Bool.{Bool, true, ◌&&◌, and_assoc}
use mathlib.Core.List.{List, [], ◌∷◌, ◌++◌}
use Prim.Native.Nat.{ℕ, suc, ◌+◌, ◌/◌, ◌≤◌, ◌<◌}
use native.Mathlib.Numerals.{add-one}
use native.Mathlib.Omega.{arith}
use lib.ListN.{length, get_or, take, drop, length-take}
use lib.Seq.{split_at}
use lib.Ieee.{Float}
use Rattle.ieee754.proofs.Tests.{and_first, and_second}
use Rattle.sphericalpoint.specs.declared.SphericalPoint.{SphericalPoint}
use Rattle.arcstring.specs.Points.{itself, points, flat, no_point}
use Rattle.arcstring_check.specs.Check.{in_range, all_in_range}
use Rattle.arcstring.proofs.Flat.{flat-points, flat_append, count_points, points-stored}
use Rattle.arcstring_check.proofs.Checks.{stored_whole, stored_some}
use Rattle.arcstring_simplify.specs.SimplifyLaws.{SimplifiedAccepted}
use Rattle.arcstring_rounds.proofs.Simplified.{simplified_keeps, simplified_no_longer, first_vertex_stays}

-- ---- coordinates in range, with a point less

range_append : (v w : List Float) → all_in_range (v ++ w) ≡ all_in_range v && all_in_range w
unfolding all_in_range
range_append [] w = refl
range_append (x ∷ v) w = ap (λ (b : Bool). in_range x && b) (range_append v w) ∙ sym (and_assoc (in_range x) (all_in_range v) (all_in_range w))

range_points : (xs ys : List SphericalPoint) → all_in_range (flat (xs ++ ys)) ≡ all_in_range (flat xs) && all_in_range (flat ys)
range_points xs ys = ap all_in_range (flat_append xs ys) ∙ range_append (flat xs) (flat ys)

range_without : (xs : List SphericalPoint) (q : SphericalPoint) (ys : List SphericalPoint) → all_in_range (flat (xs ++ q ∷ ys)) ≡ true
    → all_in_range (flat (xs ++ ys)) ≡ true
range_without xs q ys h =
    let all : all_in_range (flat xs) && all_in_range (flat (q ∷ ys)) ≡ true = sym (range_points xs (q ∷ ys)) ∙ h in
    let rest : all_in_range (flat (q ∷ [])) && all_in_range (flat ys) ≡ true = sym (range_points (q ∷ []) ys)
    ∙ and_second (all_in_range (flat xs)) (all_in_range (flat (q ∷ ys))) all in
    range_points xs ys ∙ ap₂ ◌&&◌ (and_first (all_in_range (flat xs)) (all_in_range (flat (q ∷ ys))) all)
    (and_second (all_in_range (flat (q ∷ []))) (all_in_range (flat ys)) rest)

range_after : (k : ℕ) (ps : List SphericalPoint) → k < length ps → all_in_range (flat ps) ≡ true → all_in_range (flat (take k ps ++ drop (k + 1) ps)) ≡ true
range_after k ps h r =
    rw add-one (range_without (take k ps) (get_or ps k no_point) (drop (suc k) ps)
    (ap (λ (qs : List SphericalPoint). all_in_range (flat qs)) (sym (split_at ps k no_point h)) ∙ r))

-- ---- the checks

pub simplified_accepted : SimplifiedAccepted
simplified_accepted v closed qs accepted h =
    let whole = stored_whole v accepted in
    let n : length (points v) ≡ length v / 3 = count_points v in
    let long : length qs ≤ length (points v) = simplified_no_longer SphericalPoint itself closed (points v) qs h in
    let first : length (take 1 qs) ≡ length (take 1 (points v)) = ap length (first_vertex_stays SphericalPoint itself closed (points v) qs h) in
    let some : 1 ≤ length qs = omega (arith, stored_some v accepted, length-take 1 qs, length-take 1 (points v)) in
    let range : all_in_range (flat qs) ≡ true =
    simplified_keeps itself (λ (rs : List SphericalPoint). all_in_range (flat rs) ≡ true) (λ k rs low high r. range_after k rs high r) closed (points v) qs h
    (ap all_in_range (flat-points (length v / 3) v whole.triples) ∙ whole.in-range) in
    points-stored qs some (omega (arith, whole.at_most)) range
