-- `equals` and `overlaps` of two strings, which simplify copies of them, as arcstring.rs has them. Definitions only.
use Rattle.std.specs.Prelude.{Bool, true, false, not, ◌&&◌, List, [], ◌∷◌, length, ltb, Float}
use Rattle.sphericalpoint.specs.declared.SphericalPoint.{SphericalPoint}
use Rattle.arcstring_check.specs.Answer.{Answer, refused, answered, map_answer, and_then, pick}
use Rattle.arcstring.specs.Points.{itself, ArcString, copied}
use Rattle.arcstring_along.specs.OnString.{along_string, stored}
use Rattle.arcstring_against.specs.Against.{equal_strings, within_string, two_strings}
use Rattle.arcstring_rounds.specs.Rounds.{simplified}

-- simplified, with near list and flag carried over
unfoldable pub simplified_string : ArcString → Answer ArcString
simplified_string s =
    map_answer (λ (ps : List SphericalPoint). record { vertices = ps; near = s.near; closed = s.closed }) (simplified itself s.closed s.vertices)

-- yes, or what the rest answers
abbrev pub or_else : Bool → Answer Bool → Answer Bool
or_else true rest = answered true
or_else false rest = rest

-- ---- equals

-- a simplified copy of the shorter against the longer, and then against a simplified copy of the longer
unfoldable pub equals_longer : ArcString → ArcString → Answer Bool
equals_longer short longer = or_else (equal_strings short longer) (map_answer (equal_strings short) (simplified_string (copied longer)))

unfoldable pub equals_simplified : ArcString → ArcString → Answer Bool
equals_simplified shorter longer = and_then (simplified_string (copied shorter)) (λ (short : ArcString). equals_longer short longer)

-- `==`, or by simplifying; the left is the shorter only if it is strictly shorter
unfoldable pub equals_string : ArcString → ArcString → Answer Bool
equals_string a b = or_else (equal_strings a b) (pick (ltb (length a.vertices) (length b.vertices)) (equals_simplified a b) (equals_simplified b a))

unfoldable pub equals : List Float → List Float → Bool → List Float → List Float → Bool → Answer Bool
equals a a_near a_closed b b_near b_closed = two_strings a a_near b b_near (equals_string (stored a a_near a_closed) (stored b b_near b_closed))

-- ---- overlaps

-- a leg of which both ends are along the other string. 6: the last leg of a closed string reads past the last vertex
unfoldable pub overlap_legs : ArcString → Bool → List SphericalPoint → Answer Bool
overlap_legs other closed [] = answered false
overlap_legs other closed (u ∷ []) = pick closed (refused 6) (answered false)
overlap_legs other closed (u ∷ v ∷ vs) = or_else (along_string u other && along_string v other) (overlap_legs other closed (v ∷ vs))

-- simplified copies that are `equals`
unfoldable pub same_simplified : ArcString → ArcString → Answer Bool
same_simplified a b = and_then (simplified_string (copied a)) (λ (s : ArcString). and_then (simplified_string (copied b)) (equals_string s))

-- neither original within the other, and such a leg
unfoldable pub overlaps_apart : ArcString → ArcString → Answer Bool
overlaps_apart a b = pick (not (within_string a b) && not (within_string b a)) (overlap_legs b a.closed a.vertices) (answered false)

unfoldable pub overlaps_string : ArcString → ArcString → Answer Bool
overlaps_string a b = and_then (same_simplified a b) (λ (same : Bool). pick same (overlaps_apart a b) (answered false))

unfoldable pub overlaps : List Float → List Float → Bool → List Float → List Float → Bool → Answer Bool
overlaps a a_near a_closed b b_near b_closed = two_strings a a_near b b_near (overlaps_string (stored a a_near a_closed) (stored b b_near b_closed))
