-- A stored string's vertices in another order are accepted again. Assumes nothing.
use mathlib.Core.Path.{◌≡◌, refl, sym, ap, ap₂, ◌∙◌}
use mathlib.Core.Bool.{Bool, ◌&&◌, and_assoc}
use mathlib.Core.List.{List, ◌∷◌, Permᴰ}
use Prim.Native.Nat.{ℕ, suc, ◌/◌}
use lib.ListN.{length}
use lib.Ieee.{Float}
use Rattle.sphericalpoint.specs.declared.SphericalPoint.{SphericalPoint}
use Rattle.arcstring.specs.Points.{points, flat}
use Rattle.arcstring_check.specs.Check.{in_range, all_in_range, stored_check}
use Rattle.arcstring.proofs.Flat.{flat-points}
use Rattle.arcstring_check.proofs.Checks.{stored_whole, stored_by_parts}
use Rattle.same_crossings.proofs.TurnedLegs.{and_turn}

flat_of_points : (v : List Float) → stored_check v ≡ 0 → flat (points v) ≡ v
flat_of_points v h = flat-points (length v / 3) v (stored_whole v h).triples

-- ---- the order of the points is nothing to the checks

abbrev point_in : SphericalPoint → Bool
point_in p = in_range p.x && (in_range p.y && in_range p.z)

flat_range : (p : SphericalPoint) (ps : List SphericalPoint) → all_in_range (flat (p ∷ ps)) ≡ (point_in p && all_in_range (flat ps))
unfolding all_in_range
flat_range p ps =
    ap (λ (b : Bool). in_range p.x && b) (sym (and_assoc (in_range p.y) (in_range p.z) (all_in_range (flat ps))))
    ∙ sym (and_assoc (in_range p.x) (in_range p.y && in_range p.z) (all_in_range (flat ps)))

flat_range_two : (p q : SphericalPoint) (ps : List SphericalPoint) → all_in_range (flat (p ∷ q ∷ ps)) ≡ (point_in p && (point_in q && all_in_range (flat ps)))
flat_range_two p q ps = flat_range p (q ∷ ps) ∙ ap (λ (c : Bool). point_in p && c) (flat_range q ps)

pub range_order : {ps qs : List SphericalPoint} → Permᴰ ps qs → all_in_range (flat ps) ≡ all_in_range (flat qs)
range_order Permᴰ.nil = refl
range_order (Permᴰ.cons {a} {b} {l₁} {l₂} e d) = flat_range a l₁ ∙ ap₂ (λ (p : SphericalPoint) (c : Bool). point_in p && c) e (range_order d)
    ∙ sym (flat_range b l₂)
range_order (Permᴰ.swap {a} {b} {l = l} e₁ e₂) =
    rw (← e₁, ← e₂) (flat_range_two a b l ∙ and_turn (point_in a) (point_in b) (all_in_range (flat l)) ∙ sym (flat_range_two b a l))
range_order (Permᴰ.trans d₁ d₂) = range_order d₁ ∙ range_order d₂

pub length_order : {ps qs : List SphericalPoint} → Permᴰ ps qs → length (flat ps) ≡ length (flat qs)
length_order Permᴰ.nil = refl
length_order (Permᴰ.cons e d) = ap (λ (n : ℕ). suc (suc (suc n))) (length_order d)
length_order (Permᴰ.swap e₁ e₂) = refl
length_order (Permᴰ.trans d₁ d₂) = length_order d₁ ∙ length_order d₂

pub accepted_again : (ps : List SphericalPoint) (v : List Float) → Permᴰ ps (points v) → stored_check v ≡ 0 → stored_check (flat ps) ≡ 0
accepted_again ps v d h = stored_by_parts (flat ps) (flat (points v)) (length_order d) (range_order d) ∙ ap stored_check (flat_of_points v h) ∙ h
