-- Which leg of a string is the first that holds a mark, leg after leg; and whether one does. Assumes nothing.
use Rattle.std.specs.Prelude as Std
use mathlib.Core.Path.{◌≡◌, refl, ap, ◌∙◌}
use mathlib.Core.Bool.{Bool, true, false}
use mathlib.Core.List.{List}
use Prim.Native.Nat.{ℕ, ◌≤◌, ◌<◌}
use lib.Ieee.{Float}
use Rattle.sphericalpoint.specs.declared.SphericalPoint.{SphericalPoint}
use native.Mathlib.Omega.{arith}
use Rattle.std.specs.Option.{MatchOption}
use Rattle.arcstring.specs.declared.inner.vertex.Vertices.{Vertices}
use Rattle.arcstring.specs.Points.{points, point_at}
use Rattle.arcstring.specs.Leg.{leg, legs, leg_at, position_after, legs_from, leg_count}
use Rattle.arcstring.proofs.Legs.{leg_after, legs-step, legs_none, legs_whole}
use Rattle.arcstring_along.proofs.FirstFound.{FindsFirst, found_some}
use Rattle.arcstring_along.proofs.ByPosition.{find_by_position}
use Rattle.arcstring_mark.specs.Mark.{mark_on_leg, first_holding, mark_on_string}
use Rattle.arcstring_check.specs.Answer.{option_of}

pub holding_finds : (p : SphericalPoint) → FindsFirst (mark_on_leg p) (first_holding p)
unfolding first_holding
holding_finds p = record { at-end = refl; in-turn = λ l ls. refl }

-- ---- one leg by its vertices: a the one at k, b the one that it ends at

pub vertices_tested : (p : SphericalPoint) (v : List Float) (n k next : ℕ) (a b : SphericalPoint) (r : Bool) → next ≡ position_after k n → a ≡ point_at v k
    → b ≡ point_at v next → r ≡ mark_on_leg p (leg a b) → r ≡ mark_on_leg p (leg_at v n k)
vertices_tested p v n k next a b r h ha hb e =
    e ∙ (λ i. mark_on_leg p (leg (ha i) ((hb ∙ ap (point_at v) h) i))) ∙ ap (mark_on_leg p) (leg_after v n k)

-- ---- the legs by position

-- whether the leg at k holds the mark
abbrev pub LegTold : SphericalPoint → Vertices → Bool → ℕ → Type 0
LegTold p string told k = mark_on_leg p (leg_at string.v.now string.n k) ≡ told

pub holds_by_position : (p : SphericalPoint) (string : Vertices) (l : ℕ) → l ≤ string.n → (r : Std.Option ℕ)
    → MatchOption r ((k : ℕ) → 0 ≤ k → k < l → LegTold p string false k)
    (λ i. (0 ≤ i) × (i < l) × LegTold p string true i × ((k : ℕ) → 0 ≤ k → k < i → LegTold p string false k))
    → option_of r ≡ first_holding p (legs_from string.v.now 0 l)
holds_by_position p string l within =
    find_by_position (leg_at string.v.now string.n) (λ k. legs_from string.v.now k l) l
    (λ k h. legs-step string.v.now string.n string.whole k l h within) (legs_none string.v.now l l (omega arith)) (holding_finds p)

-- ---- whether a leg of a string holds a mark: l the number of its legs, f what the walk over them found

pub found_holding : (p : SphericalPoint) (string : Vertices) (closed : Bool) {v : List Float} {l : ℕ} (f : Std.Option ℕ) → string.v.now ≡ v
    → l ≡ leg_count string.n closed
    → option_of f ≡ first_holding p (legs_from string.v.now 0 l) → Std.is_some f ≡ mark_on_string p (points v) closed
unfolding mark_on_string
found_holding p string closed f same count found =
    found_some f _
    (found ∙ ap (first_holding p) (ap (legs_from string.v.now 0) count ∙ legs_whole string.v.now string.n closed string.whole)
    ∙ ap (λ (u : List Float). first_holding p (legs (points u) closed)) same)
