-- A string cut at marks that lie on its legs. A piece is a list of vertices, or of whatever has a point, and is open. Definitions only.
use Rattle.std.specs.Prelude.{Bool, false, ◌||◌, List, [], ◌∷◌, ◌++◌, map, ℕ, ◌+◌, ◌-◌, length, get_or, take, drop, Float}
use Rattle.std.proofs.Math.Option
use Rattle.std.proofs.Math.Option.{Option, none, some}
use Rattle.sphericalpoint.specs.declared.SphericalPoint.{SphericalPoint}
use Rattle.sphericalpoint.specs.Vector.{xyz_eq}
use Rattle.arcstring_check.specs.Answer.{Answer, answered, unless_refused, first_of, and_then, pick}
use Rattle.arcstring_check.specs.Check.{string_check, points_check, room_check, rooms_check}
use Rattle.arcstring.specs.declared.inner.vertex.Vertex.{Vertex}
use Rattle.arcstring.specs.Points.{StringOf, numbered, place_of, points, no_point}
use Rattle.arcstring.specs.Leg.{legs}
use Rattle.arcstring.specs.Written.{points_in}
use Rattle.arcstring_insert.specs.Steps.{for_each, limited}
use Rattle.arcstring_split_leg.specs.SplitLeg.{unless_uncut}
use Rattle.arcstring_mark.specs.Mark.{first_holding}

-- ---- pieces

-- a closed string is opened at vertex 0, which then stands at both ends
unfoldable pub opened : {A : Type 0} → List A → Bool → List A
opened xs closed = xs ++ pick closed (take 1 xs) []

-- the two parts of a piece that is cut at leg i: up to the leg's start, and the point; the point, and from the leg's end on
unfoldable pub part_before : {A : Type 0} → A → ℕ → List A → List A
part_before x i xs = take (i + 1) xs ++ (x ∷ [])

unfoldable pub part_after : {A : Type 0} → A → ℕ → List A → List A
part_after x i xs = x ∷ drop (i + 1) xs

-- all pieces together
abbrev pub together : {A : Type 0} → List (List A) → ℕ
together [] = 0
together (xs ∷ xss) = length xs + together xss

-- ---- one mark: `pt` gives an element's point

module _ {A : Type 0} (pt : A → SphericalPoint) where
  -- the first leg of a piece that holds the mark
  unfoldable pub leg_holding : A → List A → Option ℕ
  leg_holding x xs = first_holding (pt x) (legs (map pt xs) false)

  -- whether the mark equals the first or the last vertex of a piece
  unfoldable pub at_piece_end : A → List A → Bool
  at_piece_end x xs = let ps = map pt xs in xyz_eq (pt x) (get_or ps 0 no_point) || xyz_eq (pt x) (get_or ps (length ps - 1) no_point)

  -- A piece, the pieces after it, the first leg of the piece that holds the mark, and what the mark makes of the pieces after it: at an end of the piece it
  -- cuts nothing.
  abbrev pub cut_piece : A → List A → List (List A) → Option ℕ → Option (List (List A)) → Option (List (List A))
  cut_piece x xs xss none later = Option.map (λ (yss : List (List A)). xs ∷ yss) later
  cut_piece x xs xss (some i) later = pick (at_piece_end x xs) none (some (part_before x i xs ∷ part_after x i xs ∷ xss))

  -- The pieces after a mark cuts the first piece that holds it, at the first leg that does; `none` where it cuts nothing.
  unfoldable pub cut_first : A → List (List A) → Option (List (List A))
  cut_first x [] = none
  cut_first x (xs ∷ xss) = cut_piece x xs xss (leg_holding x xs) (cut_first x xss)

  -- 3: after a cut all pieces together have over 1,024 points. Where nothing is cut the pieces stay.
  abbrev pub checked_cut : List (List A) → Option (List (List A)) → Answer (List (List A))
  checked_cut xss none = answered xss
  checked_cut xss (some cut) = limited (together cut) cut

  unfoldable pub cut_at_mark : A → List (List A) → Answer (List (List A))
  cut_at_mark x xss = checked_cut xss (cut_first x xss)

  -- one piece, cut at each of the marks in turn
  unfoldable pub cut_at_each : List A → List A → Answer (List (List A))
  cut_at_each marks xs = for_each cut_at_mark marks (xs ∷ [])

-- ---- the call

-- a piece as a string: it is open, and its near list is its vertices
abbrev pub open_string : {A : Type 0} → (A → SphericalPoint) → List A → StringOf A
open_string pt xs = record { vertices = xs; near = map pt xs; closed = false }

-- 7 looks at all three buffers; uncut always fits
abbrev pub cut_into : {A : Type 0} → ℕ → ℕ → ℕ → Option (List (StringOf A)) → Answer (Option (List (StringOf A)))
cut_into room buoy_room counts_room none = answered none
cut_into room buoy_room counts_room (some ss) =
    unless_refused (first_of (rooms_check (points_in ss) room buoy_room) (room_check (length ss) counts_room)) (answered (some ss))

-- the checks of a cut into three buffers, and what it answers if none refuses
unfoldable pub cut_checked : {A : Type 0} → (A → SphericalPoint) → List Float → List ℕ → List Float → List ℕ → ℕ → ℕ → ℕ → Answer (List (List A))
    → Answer (Option (List (StringOf A)))
cut_checked {A} pt v buoys extra extra_buoys room buoy_room counts_room a =
    unless_refused (string_check v buoys)
    (unless_refused (points_check extra extra_buoys)
    (and_then a (λ (xss : List (List A)). cut_into room buoy_room counts_room (unless_uncut (map (open_string pt) xss)))))

-- a mark brings its own number into both pieces
unfoldable pub cut_at_marks : List Float → List ℕ → Bool → List Float → List ℕ → ℕ → ℕ → ℕ → Answer (Option (List (StringOf Vertex)))
cut_at_marks v buoys closed extra extra_buoys room buoy_room counts_room =
    cut_checked place_of v buoys extra extra_buoys room buoy_room counts_room
    (cut_at_each place_of (numbered (points extra) extra_buoys) (opened (numbered (points v) buoys) closed))
