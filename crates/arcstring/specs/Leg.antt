-- A leg, from one point to another, with its check; and the legs of a string, all of them and by position. Definitions only.
use Rattle.std.specs.Prelude.{Bool, true, false, List, [], ◌∷◌, ◌++◌, ℕ, ◌+◌, ◌-◌, get_or, take, drop, ltb, Float}
use Rattle.std.specs.Float.{nan}
use Rattle.sphericalpoint.specs.declared.SphericalPoint.{SphericalPoint}
use Rattle.arcstring_check.specs.Answer.{first_of, pick}
use Rattle.arcstring.specs.Points.{point, points, point_at, flat}
use Rattle.arcstring_check.specs.Check.{point_check}

pub record Leg : Type 0 where
  pub from : SphericalPoint
  pub to : SphericalPoint

abbrev pub leg : SphericalPoint → SphericalPoint → Leg
leg u v = record { from = u; to = v }

-- a leg handed over as an array of two arrays of three
abbrev pub leg_of : List (List Float) → Leg
leg_of l =
    let u = get_or l 0 [] in
    let v = get_or l 1 [] in
    leg (point (get_or u 0 nan) (get_or u 1 nan) (get_or u 2 nan)) (point (get_or v 0 nan) (get_or v 1 nan) (get_or v 2 nan))

-- 4 of its start, then of its end
unfoldable pub leg_check : Leg → ℕ
leg_check l = first_of (point_check l.from) (point_check l.to)

-- ---- the legs of a string

-- the legs from u on through the points
abbrev pub chain : SphericalPoint → List SphericalPoint → List Leg
chain u [] = []
chain u (v ∷ vs) = leg u v ∷ chain v vs

-- An open string of n vertices has n - 1 legs; a closed one n, the last back to vertex 0.
unfoldable pub legs : List SphericalPoint → Bool → List Leg
legs [] closed = []
legs (u ∷ vs) false = chain u vs
legs (u ∷ vs) true = chain u (vs ++ (u ∷ []))

-- ---- by position

-- the position after k, around n vertices
unfoldable pub position_after : ℕ → ℕ → ℕ
position_after k n = pick (ltb (k + 1) n) (k + 1) 0

-- leg k of n vertices: the last one goes back to vertex 0
unfoldable pub leg_at : List Float → ℕ → ℕ → Leg
leg_at v n k = leg (point_at v k) (pick (ltb (k + 1) n) (point_at v (k + 1)) (point_at v 0))

-- the legs from position `from` up to, not including, `to`, of the string taken as closed; an open string's are all but the last of these
unfoldable pub legs_from : List Float → ℕ → ℕ → List Leg
legs_from v from to = take (to - from) (drop from (legs (points v) true))

-- how many legs n vertices have
unfoldable pub leg_count : ℕ → Bool → ℕ
leg_count n closed = pick closed n (n - 1)

-- a leg as a string of two vertices
unfoldable pub leg_floats : Leg → List Float
leg_floats l = flat (l.from ∷ l.to ∷ [])
