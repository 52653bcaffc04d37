-- What is claimed of a string cut at marks, over the definitions that the call's contract cites: of the opened string, what the pieces are, what one mark does,
-- and that marks which no leg holds do nothing. Definitions only. The proofs are in `proofs/CutLaws.antt`, and those of the call in `proofs/CallLaws.antt`.
use Rattle.std.specs.Prelude.{◌≡◌, Bool, true, false, ℕ, ◌+◌, ◌-◌, ◌*◌, ◌≤◌, length, take, drop, Float}
use mathlib.Core.List.{List, [], ◌∷◌, ◌++◌, map, Memᴰ}
use Rattle.std.proofs.Math.Option.{Option, none, some}
use Rattle.sphericalpoint.specs.declared.SphericalPoint.{SphericalPoint}
use Rattle.arcstring_check.specs.Answer.{answered}
use Rattle.arcstring_check.specs.Check.{most_points}
use Rattle.arcstring.specs.declared.inner.vertex.Vertex.{Vertex}
use Rattle.arcstring.specs.Points.{StringOf, numbered, place_of, places_of, itself, points}
use Rattle.arcstring.specs.Leg.{legs}
use Rattle.arcstring.specs.Written.{points_in}
use Rattle.arcstring_along.specs.OnString.{is_some}
use Rattle.arcstring_mark.specs.Mark.{mark_on_string}
use Rattle.arcstring_mark_cut.specs.CutAtMarks.{opened, part_before, part_after, leg_holding, at_piece_end, cut_first, cut_at_mark, cut_at_each, cut_at_marks}

-- ---- the opened string

-- The legs of the opened string, which is open, are those of the string; so it holds the marks that the string holds.
abbrev pub OpenedLegs : Type 0
OpenedLegs = (ps : List SphericalPoint) (closed : Bool) → legs (opened ps closed) false ≡ legs ps closed

abbrev pub OpenedHolds : Type 0
OpenedHolds =
    (p : SphericalPoint) (ps : List SphericalPoint) (closed : Bool) → is_some (leg_holding itself p (opened ps closed)) ≡ mark_on_string p ps closed

-- ---- pieces, of any elements

module _ {A : Type 0} where
  -- every piece has two vertices at least
  abbrev pub Long : List (List A) → Type 0
  Long [] = Unit {0}
  Long (xs ∷ xss) = (2 ≤ length xs) × Long xss

  -- each piece ends with the vertex with which the next begins, and that is one of the marks
  abbrev pub Linked : List A → List (List A) → Type 0
  Linked marks [] = Unit {0}
  Linked marks (xs ∷ []) = Unit {0}
  Linked marks (xs ∷ ys ∷ xss) =
      ((x : A) × Memᴰ x marks × (drop (length xs - 1) xs ≡ x ∷ []) × (take 1 ys ≡ x ∷ [])) × Linked marks (ys ∷ xss)

  -- the pieces one after another, with the two copies of each cut's point taken out: the last of a piece, and the first of the next
  abbrev without_cuts_from : List A → List (List A) → List A
  without_cuts_from xs [] = xs
  without_cuts_from xs (ys ∷ xss) = take (length xs - 1) xs ++ without_cuts_from (drop 1 ys) xss

  abbrev pub without_cuts : List (List A) → List A
  without_cuts [] = []
  without_cuts (xs ∷ xss) = without_cuts_from xs xss

module _ {A : Type 0} (pt : A → SphericalPoint) where
  -- how many of the marks cut, each the pieces that those before it have left
  abbrev cut_number : Option (List (List A)) → ℕ
  cut_number none = 0
  cut_number (some cut) = 1

  abbrev left : List (List A) → Option (List (List A)) → List (List A)
  left xss none = xss
  left xss (some cut) = cut

  unfoldable pub cuts_made : List A → List (List A) → ℕ
  cuts_made [] xss = 0
  cuts_made (x ∷ marks) xss = cut_number (cut_first pt x xss) + cuts_made marks (left xss (cut_first pt x xss))

  -- no piece has a leg that holds the mark
  abbrev pub NoneHolds : A → List (List A) → Type 0
  NoneHolds x [] = Unit {0}
  NoneHolds x (xs ∷ xss) = (leg_holding pt x xs ≡ none) × NoneHolds x xss

-- ---- what the pieces are, whatever the marks: vertices as they were, numbers included, where the elements carry numbers

pub record Pieces {A : Type 0} (pt : A → SphericalPoint) (marks xs : List A) (xss : List (List A)) : Type 0 where
  pub long : 2 ≤ length xss → Long xss
  pub linked : Linked marks xss
  pub whole : without_cuts xss ≡ xs
  pub count : length xss ≡ cuts_made pt marks (xs ∷ []) + 1

abbrev pub CutPieces : Type 1
CutPieces = (A : Type 0) (pt : A → SphericalPoint) (marks xs : List A) (xss : List (List A)) → cut_at_each pt marks xs ≡ answered xss → Pieces pt marks xs xss

-- ---- what one mark does

pub record OneMark {A : Type 0} (pt : A → SphericalPoint) (x : A) : Type 0 where
  -- no leg holds it: nothing
  pub passed_over : (xss : List (List A)) → NoneHolds pt x xss → cut_first pt x xss ≡ none
  -- it equals an end of the first piece that holds it: nothing
  pub at-end : (before : List (List A)) (xs : List A) (after : List (List A)) (i : ℕ) → NoneHolds pt x before → leg_holding pt x xs ≡ some i
      → at_piece_end pt x xs ≡ true → cut_first pt x (before ++ (xs ∷ after)) ≡ none
  -- else that piece is cut, at the first leg that holds it
  pub inside : (before : List (List A)) (xs : List A) (after : List (List A)) (i : ℕ) → NoneHolds pt x before → leg_holding pt x xs ≡ some i
      → at_piece_end pt x xs ≡ false → cut_first pt x (before ++ (xs ∷ after)) ≡ some (before ++ (part_before x i xs ∷ part_after x i xs ∷ after))
  -- where nothing is cut the pieces stay
  pub nothing : (xss : List (List A)) → cut_first pt x xss ≡ none → cut_at_mark pt x xss ≡ answered xss

abbrev pub OneMarkCuts : Type 1
OneMarkCuts = (A : Type 0) (pt : A → SphericalPoint) (x : A) → OneMark pt x

-- The answer does not depend on a mark that no leg holds, of the pieces that the marks before it have left.
abbrev pub PassedOver : Type 1
PassedOver =
    (A : Type 0) (pt : A → SphericalPoint) (before after : List A) (x : A) (xs : List A)
    → ((xss : List (List A)) → cut_at_each pt before xs ≡ answered xss → NoneHolds pt x xss)
    → cut_at_each pt (before ++ (x ∷ after)) xs ≡ cut_at_each pt (before ++ after) xs

-- ---- the call

-- a piece that the call answers: open, its near list its vertices
pub record OpenPiece (s : StringOf Vertex) : Type 0 where
  pub is_open : s.closed ≡ false
  pub near_vertices : s.near ≡ places_of s.vertices

abbrev pub EachOpen : List (StringOf Vertex) → Type 0
EachOpen [] = Unit {0}
EachOpen (s ∷ ss) = OpenPiece s × EachOpen ss

abbrev pub vertices_of : StringOf Vertex → List Vertex
vertices_of s = s.vertices

pub record CutCall (vertices marks : List Vertex) (ss : List (StringOf Vertex)) : Type 0 where
  pub each_open : EachOpen ss
  pub each_long : Long (map vertices_of ss)
  pub pieces : Pieces place_of marks vertices (map vertices_of ss)
  -- so a caller who lends 512 counts, and room for 1,024 points, has lent enough
  pub few : 2 * length ss ≤ most_points
  pub limit : points_in ss ≤ most_points

abbrev pub CallCuts : Type 0
CallCuts =
    (v : List Float) (buoys : List ℕ) (closed : Bool) (extra : List Float) (extra_buoys : List ℕ) (room buoy_room counts_room : ℕ) (ss : List (StringOf Vertex))
    → cut_at_marks v buoys closed extra extra_buoys room buoy_room counts_room ≡ answered (some ss)
    → CutCall (opened (numbered (points v) buoys) closed) (numbered (points extra) extra_buoys) ss

-- and where it answers *uncut*, no mark cuts
abbrev pub CallUncut : Type 0
CallUncut =
    (v : List Float) (buoys : List ℕ) (closed : Bool) (extra : List Float) (extra_buoys : List ℕ) (room buoy_room counts_room : ℕ)
    → cut_at_marks v buoys closed extra extra_buoys room buoy_room counts_room ≡ answered none
    → cuts_made place_of (numbered (points extra) extra_buoys) (opened (numbered (points v) buoys) closed ∷ []) ≡ 0
