-- `==`, `within`, `contains` and `crosses` of two strings, as arcstring.rs has them. Definitions only.
use Rattle.std.specs.Prelude.{Bool, not, ◌&&◌, List, length, ltb, Float}
use Rattle.arcstring_check.specs.Answer.{Answer, answered, unless_refused}
use Rattle.arcstring_check.specs.Check.{stored_check, no_margin}
use Rattle.arcstring.specs.Points.{ArcString, points}
use Rattle.arcstring.specs.Leg.{legs}
use Rattle.arcstring_tally.specs.Pairs.{pairs_between, kept_marks}
use Rattle.arcstring_along.specs.OnString.{stored}
use Rattle.arcstring_against.specs.Against.{all_along, equal_strings, within_string, two_strings}

-- neither is within the other, and some pair of legs keeps a point, with no margin
unfoldable pub crosses_string : ArcString → ArcString → Bool
crosses_string a b =
    not (within_string a b)
    && (not (within_string b a)
    && ltb 0 (length (kept_marks (pairs_between no_margin (legs a.vertices a.closed) (legs b.vertices b.closed)))))

-- ---- the calls

unfoldable pub equal : List Float → List Float → Bool → List Float → List Float → Bool → Answer Bool
equal a a_near a_closed b b_near b_closed = two_strings a a_near b b_near (answered (equal_strings (stored a a_near a_closed) (stored b b_near b_closed)))

unfoldable pub crosses : List Float → List Float → Bool → List Float → List Float → Bool → Answer Bool
crosses a a_near a_closed b b_near b_closed = two_strings a a_near b b_near (answered (crosses_string (stored a a_near a_closed) (stored b b_near b_closed)))

-- the vertices of the first along the second: the first string's near list and flag are not read
unfoldable pub within : List Float → List Float → List Float → Bool → Answer Bool
within a b b_near b_closed =
    unless_refused (stored_check a)
    (unless_refused (stored_check b) (unless_refused (stored_check b_near) (answered (all_along (points a) (stored b b_near b_closed)))))

-- the vertices of the second along the first
unfoldable pub contains : List Float → List Float → Bool → List Float → Answer Bool
contains a a_near a_closed b =
    unless_refused (stored_check a)
    (unless_refused (stored_check a_near) (unless_refused (stored_check b) (answered (all_along (points b) (stored a a_near a_closed)))))
