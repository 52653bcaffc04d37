-- What inserting and splitting share: steps taken in turn until one refuses, the leg that starts at a vertex, and the check of a result. Definitions only.
use Rattle.std.specs.Prelude.{List, [], ◌∷◌, ℕ, zero, suc, ◌+◌, length, get_or, ltb, Float}
use Rattle.sphericalpoint.specs.declared.SphericalPoint.{SphericalPoint}
use Rattle.arcstring_check.specs.Answer.{Answer, answered, unless_refused, and_then, number_if}
use Rattle.arcstring.specs.Points.{no_point}
use Rattle.arcstring_check.specs.Check.{list_check, most_points}
use Rattle.arcstring.specs.Leg.{Leg, leg, position_after}

-- a step for each element of a list, in turn
unfoldable pub for_each : {A B : Type 0} → (A → B → Answer B) → List A → B → Answer B
for_each f [] x = answered x
for_each f (a ∷ l) x = and_then (f a x) (for_each f l)

-- a step for each of `count` positions from k on, in turn: how many there are is fixed before the first
unfoldable pub for_positions : {B : Type 0} → (ℕ → B → Answer B) → ℕ → ℕ → B → Answer B
for_positions f k zero x = answered x
for_positions f k (suc count) x = and_then (f k x) (for_positions f (k + 1) count)

-- the leg that starts at vertex k: the last vertex's goes back to vertex 0
unfoldable pub leg_from : List SphericalPoint → ℕ → Leg
leg_from ps k = leg (get_or ps k no_point) (get_or ps (position_after k (length ps)) no_point)

-- a list to insert or to split at; an empty one is accepted
unfoldable pub extra_check : List Float → ℕ
extra_check v = list_check 0 v

-- 3: a result that holds so many points is over 1,024
unfoldable pub limited : {A : Type 0} → ℕ → A → Answer A
limited size x = unless_refused (number_if (ltb most_points size) 3) (answered x)
