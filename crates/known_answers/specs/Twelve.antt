-- The twelve known answers of docs/TERMS.md: what the definitions give, and what that page says, as two lists. X, Y and Z are the axis unit points, M is
-- (0.5, 0.5, 0). Strings carry the numbers 7, 8, 9. Definitions only. The proof is `twelve_known_answers` of `proofs/TwelveAnswers.antt`.
use Rattle.std.specs.Prelude.{◌≡◌, Bool, true, false, List, [], ◌∷◌, ◌++◌, ℕ, pos, negsuc, Float}
use Rattle.std.proofs.Math.Option.{none, some}
use Rattle.std.specs.Float.{fin}
use Rattle.sphericalpoint.specs.declared.SphericalPoint.{SphericalPoint}
use Rattle.square_root.specs.Sqrt.{sqrt_of}
use Rattle.arcstring_check.specs.Answer.{Answer, refused, answered}
use Rattle.arcstring.specs.declared.inner.vertex.Vertex.{Vertex}
use Rattle.arcstring.specs.Points.{StringOf, ArcString, point, flat}
use Rattle.arcstring_point.specs.Point.{coplanar_points}
use Rattle.arcstring_build.specs.Build.{built_string, build}
use Rattle.arcstring.specs.Leg.{Leg, leg}
use Rattle.arcstring_pair.specs.Pair.{Judged, arcs_crossing}
use Rattle.arcstring_simplify.specs.Simplify.{simplify}

pub data Known : Type 0 where
  crossing : Answer Judged → Known
  coplanar : Answer Bool → Known
  building : Answer (StringOf Vertex) → Known
  simplifying : Answer (List Vertex) → Known
  root : Float → Known

-- ---- numbers, points, legs

abbrev pub nought : Float
nought = fin false 0 (pos 0)

abbrev pub unit : Float
unit = fin false 1 (pos 0)

abbrev quarter : Float
quarter = fin false 1 (negsuc 1)

abbrev pub half : Float
half = fin false 1 (negsuc 0)

abbrev minus_half : Float
minus_half = fin true 1 (negsuc 0)

abbrev pub point_x : SphericalPoint
point_x = point unit nought nought

abbrev pub point_y : SphericalPoint
point_y = point nought unit nought

abbrev point_z : SphericalPoint
point_z = point nought nought unit

abbrev minus_x : SphericalPoint
minus_x = point (fin true 1 (pos 0)) nought nought

abbrev point_m : SphericalPoint
point_m = point half half nought

-- (1, -0.5, 0) to (1, 0.5, 0), and upright legs from (1, 0, low) to (1, 0, 0.5)
abbrev level : Leg
level = leg (point unit minus_half nought) (point unit half nought)

abbrev upright : Float → Leg
upright low = leg (point unit nought low) (point unit nought half)

-- what X, Y, M, X make
abbrev built_xym : ArcString
built_xym = built_string (point_x ∷ point_y ∷ point_m ∷ point_x ∷ [])

-- a point with the number of its buoy
abbrev pub buoyed : SphericalPoint → ℕ → Vertex
buoyed p n = record { place = p; buoy = n }

-- ---- the twelve; 9 has two, and 12 three. A build has room for one vertex and its number, a simplified string for three.

-- 1 to 4
abbrev pub crossings : List Known
crossings =
    crossing (arcs_crossing level (upright minus_half))
    ∷ crossing (arcs_crossing level (upright quarter))
    ∷ crossing (arcs_crossing level (upright nought))
    ∷ crossing (arcs_crossing (leg point_x point_y) (leg point_x point_y))
    ∷ []

-- 5 to 8
abbrev pub coplanars : List Known
coplanars =
    coplanar (coplanar_points point_x point_y point_m)
    ∷ coplanar (coplanar_points point_x point_m point_y)
    ∷ coplanar (coplanar_points point_x point_y point_z)
    ∷ coplanar (coplanar_points point_x minus_x point_y)
    ∷ []

-- 9
abbrev pub buildings : List Known
buildings = building (build (flat (point_x ∷ point_x ∷ [])) (7 ∷ 8 ∷ []) 3 1) ∷ building (build (flat (point_x ∷ [])) (7 ∷ []) 3 1) ∷ []

-- 10 and 11
abbrev pub simplifyings : List Known
simplifyings =
    simplifying (simplify (flat (point_x ∷ point_y ∷ point_z ∷ [])) (7 ∷ 8 ∷ 9 ∷ []) false 9 3)
    ∷ simplifying (simplify (flat built_xym.vertices) (7 ∷ 8 ∷ 9 ∷ []) built_xym.closed 9 3)
    ∷ []

-- 12
abbrev pub roots : List Known
roots = root (sqrt_of nought) ∷ root (sqrt_of quarter) ∷ root (sqrt_of unit) ∷ []

unfoldable pub twelve : List Known
twelve = crossings ++ (coplanars ++ (buildings ++ (simplifyings ++ roots)))

-- Class 1 is clean, 3 grazing, 4 apart. In 3 and 4 the points that the Rust keeps stand too: (0.5, 0, 0), not normalised, and (0, 0, 0).
abbrev pub answers : List Known
answers =
    crossing (answered (record { class = 1; point = some (point unit nought nought); kept = true }))
    ∷ crossing (answered (record { class = 4; point = none; kept = false }))
    ∷ crossing (answered (record { class = 3; point = some (point half nought nought); kept = true }))
    ∷ crossing (answered (record { class = 3; point = some (point nought nought nought); kept = true }))
    ∷ coplanar (answered true)
    ∷ coplanar (answered false)
    ∷ coplanar (answered false)
    ∷ coplanar (answered false)
    ∷ building (answered (record { vertices = buoyed point_x 7 ∷ []; near = point_x ∷ []; closed = true }))
    ∷ building (refused 2)
    ∷ simplifying (answered (buoyed point_x 7 ∷ buoyed point_y 8 ∷ []))
    ∷ simplifying (refused 5)
    ∷ root nought
    ∷ root half
    ∷ root unit
    ∷ []

-- ---- what is claimed

-- The definitions give the document's answers.
abbrev pub TwelveKnownAnswers : Type 0
TwelveKnownAnswers = twelve ≡ answers
