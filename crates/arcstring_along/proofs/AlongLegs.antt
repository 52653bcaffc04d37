-- Whether a point is along one of the legs, leg after leg, and along a string. Assumes nothing.
use mathlib.Core.Path.{◌≡◌, refl, sym, ap, ◌∙◌}
use mathlib.Core.Bool.{Bool, true, false, ◌||◌}
use mathlib.Core.List.{List}
use Prim.Native.Nat.{ℕ, ◌≤◌, ◌<◌}
use lib.Ieee.{Float}
use Rattle.sphericalpoint.specs.declared.SphericalPoint.{SphericalPoint}
use Rattle.sphericalpoint_coplanar.specs.Coplanar.{xyzs_coplanar}
use native.Mathlib.Omega.{arith}
use Rattle.std.specs.Bool.{MatchBool}
use Rattle.arcstring_along.proofs.ByPosition.{Stops, any_by_position}
use Rattle.arcstring.specs.declared.inner.vertex.Vertices.{Vertices}
use Rattle.arcstring.specs.Points.{points, point_at}
use Rattle.arcstring.specs.Leg.{legs, leg_at, position_after, legs_from, leg_count}
use Rattle.arcstring.proofs.Legs.{leg_after, legs-step, legs_none, legs_whole}
use Rattle.arcstring_along.specs.OnString.{near_some, along_leg, along_some_leg, along_string, stored}

-- ---- one leg by its vertices: a the one at k, b the one that it ends at, r what the test of them says

pub vertices_along : (p : SphericalPoint) (v : List Float) (n k next : ℕ) (a b : SphericalPoint) (r : Bool) → next ≡ position_after k n → a ≡ point_at v k
    → b ≡ point_at v next → r ≡ xyzs_coplanar a p b → r ≡ along_leg p (leg_at v n k)
unfolding along_leg
vertices_along p v n k next a b r h ha hb e =
    e ∙ (λ i. xyzs_coplanar (ha i) p ((hb ∙ ap (point_at v) h) i)) ∙ ap (along_leg p) (leg_after v n k)

-- ---- the legs by position

along_stops : (p : SphericalPoint) → Stops true (along_leg p) (along_some_leg p)
unfolding along_some_leg
along_stops p =
    record {
      at-end = refl;
      here = λ l ls h. ap (λ (b : Bool). b || along_some_leg p ls) h;
      later = λ l ls h. ap (λ (b : Bool). b || along_some_leg p ls) h;
    }

-- whether the point is along the leg at k
abbrev pub LegTold : SphericalPoint → Vertices → Bool → ℕ → Type 0
LegTold p string told k = along_leg p (leg_at string.v.now string.n k) ≡ told

pub along_by_position : (p : SphericalPoint) (string : Vertices) (l : ℕ) → l ≤ string.n → (r : Bool)
    → MatchBool r ((k : ℕ) × (k < l) × LegTold p string true k) ((k : ℕ) → k < l → LegTold p string false k) → r ≡ along_some_leg p (legs_from string.v.now 0 l)
along_by_position p string l within =
    any_by_position (leg_at string.v.now string.n) (λ k. legs_from string.v.now k l) l
    (λ k h. legs-step string.v.now string.n string.whole k l h within) (legs_none string.v.now l l (omega arith)) (along_stops p)

-- ---- along a string: es the entries as the walk over them has them, b whether one of them is near

module _ (p : SphericalPoint) (v near : List Float) (closed b : Bool) {es : List Float} (entries : es ≡ near) (known : b ≡ near_some p (points es)) where
  -- near an entry, or what the legs say
  by_near : (t : Bool) → b ≡ t → t || along_some_leg p (legs (points v) closed) ≡ along_string p (stored v near closed)
  unfolding along_string
  by_near t e = ap (λ (s : Bool). s || along_some_leg p (legs (points v) closed)) (sym e ∙ known ∙ ap (λ (fs : List Float). near_some p (points fs)) entries)

  pub along_near : b ≡ true → true ≡ along_string p (stored v near closed)
  along_near = by_near true

  -- l the number of the legs
  pub along-legs : (string : Vertices) (l : ℕ) (r : Bool) → string.v.now ≡ v → l ≡ leg_count string.n closed → b ≡ false
      → r ≡ along_some_leg p (legs_from string.v.now 0 l) → r ≡ along_string p (stored v near closed)
  along-legs string l r same count e h =
      h
      ∙ ap (along_some_leg p) (ap (legs_from string.v.now 0) count ∙ legs_whole string.v.now string.n closed string.whole)
      ∙ ap (λ (fs : List Float). along_some_leg p (legs (points fs) closed)) same
      ∙ by_near false e
