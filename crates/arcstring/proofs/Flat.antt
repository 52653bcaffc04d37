-- Laws of flat lists: points to floats and back, lengths, parts, and the point that stands at a position. Assumes nothing.
use mathlib.Core.Bool.{true}
use mathlib.Core.Path.{◌≡◌, refl, sym, ap, ap₂, ◌∙◌}
use mathlib.Core.List.{List, [], ◌∷◌, ◌++◌, append_assoc}
use Prim.Native.Nat.{ℕ, zero, suc, ◌+◌, ◌*◌, ◌/◌, ◌≤◌, ◌<◌}
use native.Mathlib.Numerals.{add-one}
use native.Mathlib.Omega.{arith}
use lib.ListN.{length, get_or, take, drop}
use lib.Seq.{drop-nil, drop-cons, take-nil, take-suc, get_or-drop}
use lib.Ieee.{Float, nan}
use Rattle.sphericalpoint.specs.declared.SphericalPoint.{SphericalPoint}
use Rattle.arcstring.specs.Points.{point, points, flat, point_at, no_point}
use Rattle.arcstring_check.specs.Check.{most_points, all_in_range, stored_check}
use Rattle.arcstring_check.proofs.Checks.{by_range, stored-not_empty}

triple : (k : ℕ) → 3 * suc k ≡ suc (suc (suc (3 * k)))
triple k = omega arith

-- ---- points to floats and back

pub points-flat : (ps : List SphericalPoint) → points (flat ps) ≡ ps
points-flat [] = refl
points-flat (p ∷ ps) = ap (λ (qs : List SphericalPoint). p ∷ qs) (points-flat ps)

-- whole triples to points and back
pub flat-points : (n : ℕ) (v : List Float) → length v ≡ 3 * n → flat (points v) ≡ v
flat-points n [] h = refl
flat-points zero (x ∷ v) h = absurd (omega arith)
flat-points (suc n) (x ∷ []) h = absurd (omega arith)
flat-points (suc n) (x ∷ y ∷ []) h = absurd (omega arith)
flat-points (suc n) (x ∷ y ∷ z ∷ v) h = ap (λ (w : List Float). x ∷ y ∷ z ∷ w) (flat-points n v (omega arith))

-- ---- lengths

pub length-flat : (ps : List SphericalPoint) → length (flat ps) ≡ 3 * length ps
length-flat [] = refl
length-flat (p ∷ ps) = omega (arith, length-flat ps)

-- of any list
pub count_points : (v : List Float) → length (points v) ≡ length v / 3
count_points [] = refl
count_points (x ∷ []) = refl
count_points (x ∷ y ∷ []) = refl
count_points (x ∷ y ∷ z ∷ v) = omega (arith, count_points v)

-- of whole triples
pub length-points : (n : ℕ) (v : List Float) → length v ≡ 3 * n → length (points v) ≡ n
length-points n v h = omega (arith, count_points v)

-- ---- lists after one another

pub flat_append : (ps qs : List SphericalPoint) → flat (ps ++ qs) ≡ flat ps ++ flat qs
flat_append [] qs = refl
flat_append (p ∷ ps) qs = ap (λ (w : List Float). p.x ∷ p.y ∷ p.z ∷ w) (flat_append ps qs)

pub points-append : (n : ℕ) (v w : List Float) → length v ≡ 3 * n → points (v ++ w) ≡ points v ++ points w
points-append n [] w h = refl
points-append zero (x ∷ v) w h = absurd (omega arith)
points-append (suc n) (x ∷ []) w h = absurd (omega arith)
points-append (suc n) (x ∷ y ∷ []) w h = absurd (omega arith)
points-append (suc n) (x ∷ y ∷ z ∷ v) w h = ap (λ (ps : List SphericalPoint). point x y z ∷ ps) (points-append n v w (omega arith))

-- ---- the first k points, and those from k on

pub take-flat : (k : ℕ) (ps : List SphericalPoint) → take (3 * k) (flat ps) ≡ flat (take k ps)
take-flat zero ps = refl
take-flat (suc k) [] = take-nil (3 * suc k)
take-flat (suc k) (p ∷ ps) = rw (triple k) (ap (λ (w : List Float). p.x ∷ p.y ∷ p.z ∷ w) (take-flat k ps))

pub drop-flat : (k : ℕ) (ps : List SphericalPoint) → drop (3 * k) (flat ps) ≡ flat (drop k ps)
drop-flat zero ps = refl
drop-flat (suc k) [] = drop-nil (3 * suc k)
drop-flat (suc k) (p ∷ ps) = rw (triple k) (drop-flat k ps)

pub take-points : (k : ℕ) (v : List Float) → points (take (3 * k) v) ≡ take k (points v)
take-points zero v = refl
take-points (suc k) [] = ap points (take-nil (3 * suc k))
take-points (suc k) (x ∷ []) = rw (triple k)
take-points (suc k) (x ∷ y ∷ []) = rw (triple k)
take-points (suc k) (x ∷ y ∷ z ∷ v) = rw (triple k) (ap (λ (ps : List SphericalPoint). point x y z ∷ ps) (take-points k v))

pub drop-points : (k : ℕ) (v : List Float) → points (drop (3 * k) v) ≡ drop k (points v)
drop-points zero v = refl
drop-points (suc k) [] = ap points (drop-nil (3 * suc k))
drop-points (suc k) (x ∷ []) = rw (triple k)
drop-points (suc k) (x ∷ y ∷ []) = rw (triple k)
drop-points (suc k) (x ∷ y ∷ z ∷ v) = rw (triple k) (drop-points k v)

-- ---- point k

pub point_at_lem : (v : List Float) (k : ℕ) (d : SphericalPoint) → 3 * k + 3 ≤ length v → get_or (points v) k d ≡ point_at v k
point_at_lem [] k d h = absurd (omega arith)
point_at_lem (x ∷ []) k d h = absurd (omega arith)
point_at_lem (x ∷ y ∷ []) k d h = absurd (omega arith)
point_at_lem (x ∷ y ∷ z ∷ v) zero d h = refl
point_at_lem (x ∷ y ∷ z ∷ v) (suc k) d h =
    let e1 : 3 * suc k + 1 ≡ suc (suc (suc (3 * k + 1))) = omega arith in
    let e2 : 3 * suc k + 2 ≡ suc (suc (suc (3 * k + 2))) = omega arith in
    rw (e1, e2, triple k) (point_at_lem v k d (omega arith))

-- the points of a part from k on
pub point_at-drop : (v : List Float) (k i : ℕ) → point_at (drop (3 * k) v) i ≡ point_at v (k + i)
point_at-drop v k i =
    let e : 3 * (k + i) ≡ 3 * k + 3 * i = omega arith in
    let e1 : 3 * k + 3 * i + 1 ≡ 3 * k + (3 * i + 1) = omega arith in
    let e2 : 3 * k + 3 * i + 2 ≡ 3 * k + (3 * i + 2) = omega arith in
    simp (e, e1, e2, get_or-drop)

-- one point more
pub take_next : (v : List Float) (k : ℕ) → 3 * k + 3 ≤ length v → take (3 * (k + 1)) v ≡ take (3 * k) v ++ flat (point_at v k ∷ [])
take_next v k h =
    let e : 3 * (k + 1) ≡ suc (suc (suc (3 * k))) = omega arith in
    let e1 : 3 * k + 1 ≡ suc (3 * k) = omega arith in
    let e2 : 3 * k + 2 ≡ suc (suc (3 * k)) = omega arith in
    simp (
      e,
      e1,
      e2,
      take-suc v (suc (suc (3 * k))) nan (omega arith),
      take-suc v (suc (3 * k)) nan (omega arith),
      take-suc v (3 * k) nan
          (omega arith),
      append_assoc,
    )

-- the points from k on begin with point k
pub points-next : (n : ℕ) (v : List Float) (k : ℕ) → length v ≡ 3 * n → k < n → drop k (points v) ≡ point_at v k ∷ drop (k + 1) (points v)
points-next n v k whole h =
    drop-cons (points v) k no_point (omega (arith, length-points n v whole))
    ∙ ap₂ ◌∷◌ (point_at_lem v k no_point (omega arith)) (ap (λ (j : ℕ). drop j (points v)) (sym (add-one k)))

-- ---- an accepted list

-- points in range, as many as a string may have, are such a list
pub points-stored : (ps : List SphericalPoint) → 1 ≤ length ps → length ps ≤ most_points → all_in_range (flat ps) ≡ true → stored_check (flat ps) ≡ 0
points-stored ps some few range =
    let l = length-flat ps in
    sym (by_range 0 (flat ps) (omega arith) refl (omega arith) true range ∙ stored-not_empty (flat ps) (λ e. omega arith))
