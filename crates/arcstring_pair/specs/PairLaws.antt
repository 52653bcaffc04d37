-- What is claimed of every pair of legs with coordinates from -1 to 1: its point is the one that the Rust's `arcs_crossing` answers, the listings keep what the
-- Rust's keep, and its class is the one that the words of docs/TERMS.md describe; and what another margin changes. Definitions only.
-- The proofs are `pair_call_in_words`, `pairs_in_words`, `zero_margin_in_words`, `string-legs_accepted` and `judged_apart` of `proofs/PairLaws.antt`, and
-- `point_stays`, `wider_margin` and `value_of_margin` of `proofs/MarginLaws.antt`.
use Rattle.std.specs.Prelude.{◌≡◌, ◌⊎◌, Bool, true, false, not, ◌&&◌, ◌||◌, eqb, Float}
use mathlib.Core.List.{List, [], ◌∷◌, Memᴰ}
use Rattle.std.proofs.Math.Option.{Option, none, some}
use Rattle.std.specs.Float.Ieee.{le}
use Rattle.ieee754.specs.Value.{value, is_zero}
use Rattle.sphericalpoint.specs.declared.SphericalPoint.{SphericalPoint}
use Rattle.sphericalpoint.specs.Vector.{xyz_cross, xyz_dot, xyz_neg}
use Rattle.arcstring_check.specs.Answer.{answered, pick}
use Rattle.arcstring.specs.Points.{points}
use Rattle.arcstring_check.specs.Check.{stored_check, margin_check}
use Rattle.arcstring_pair.specs.declared.pair.Pair.{Pair}
use Rattle.arcstring.specs.Leg.{Leg, leg_check, legs}
use Rattle.arcstring_sides.specs.Sides.{grazes, is_above, is_below, sign_negative, sign_positive, some_side, every_side}
use Rattle.arcstring_pair.specs.Pair.{meeting, side_values, at_end, pair_of}
use Rattle.arcstring_pair.specs.Pair.{Judged, judged, kept_point, arcs_crossing}

-- ---- the Rust's own expressions

-- `arcs_crossing`, line by line: t where all four sign bits are clear, -t where all four are set, else `None`. Of legs in range no side value is a NaN, so that
-- each has a sign.
unfoldable pub rust_crossing : Leg → Leg → Option SphericalPoint
rust_crossing a b =
    let p = xyz_cross a.from a.to in
    let q = xyz_cross b.from b.to in
    let t = xyz_cross p q in
    let a-from = xyz_dot (xyz_neg (xyz_cross a.from p)) t in
    let a-to = xyz_dot (xyz_cross a.to p) t in
    let b-from = xyz_dot (xyz_neg (xyz_cross b.from q)) t in
    let b-to = xyz_dot (xyz_cross b.to q) t in
    let result = a-from ∷ a-to ∷ b-from ∷ b-to ∷ [] in
    pick (every_side sign_positive result) (some t) (pick (every_side sign_negative result) (some (xyz_neg t)) none)

-- whether the point is `xyz_eq` to one of the four leg ends, as the Rust's listings ask of what `arcs_crossing` answers
abbrev pub answers_end : Option SphericalPoint → Leg → Leg → Bool
answers_end none a b = false
answers_end (some p) a b = at_end p a b

-- what the Rust's listings keep of a pair: its point, unless that is an end
unfoldable pub rust_kept : Leg → Leg → Option SphericalPoint
rust_kept a b = pick (answers_end (rust_crossing a b) a b) none (rust_crossing a b)

-- ---- the words of docs/TERMS.md

-- the four side values, each with the sign that it has when the Rust compares it
abbrev pub sides : Leg → Leg → List Float
sides a b = side_values a b (meeting a b)

-- their signs agree: all are above zero, or all below
abbrev pub signs_agree : List Float → Bool
signs_agree s = every_side is_above s || every_side is_below s

-- they differ: some are above zero and some below
abbrev pub signs_differ : List Float → Bool
signs_differ s = some_side is_above s && some_side is_below s

-- What is said of a pair of the legs a and b, where a side value grazes by the test `graze`. The line of a class says that the pair is in it exactly where
-- its words hold, so that no two classes can have traded places. The point, and what the listings keep, are the Rust's whatever the test.
pub record InWords (graze : Float → Bool) (a b : Leg) (j : Judged) : Type 0 where
  pub rusts_point : j.point ≡ rust_crossing a b
  pub rusts_kept : kept_point j ≡ rust_kept a b
  -- grazing: a side value grazes
  pub grazing_words : eqb j.class 3 ≡ some_side graze (sides a b)
  -- if none does: apart, the signs differ
  pub apart_words : eqb j.class 4 ≡ not (some_side graze (sides a b)) && signs_differ (sides a b)
  -- end: they agree, and the point is an end
  pub end_words : eqb j.class 2 ≡ not (some_side graze (sides a b)) && (signs_agree (sides a b) && answers_end (rust_crossing a b) a b)
  -- clean: they agree, and it is none
  pub clean_words : eqb j.class 1 ≡ not (some_side graze (sides a b)) && (signs_agree (sides a b) && not (answers_end (rust_crossing a b) a b))

-- ---- what is claimed

-- Whatever the pair call, which takes no margin, answers is so: what grazes is a zero.
abbrev pub PairCallInWords : Type 0
PairCallInWords = (a b : Leg) (j : Judged) → arcs_crossing a b ≡ answered j → InWords is_zero a b j

-- So is every pair, at every margin that is not refused, of legs that pass the pair call's check: what grazes is at most the margin in size.
abbrev pub PairsInWords : Type 0
PairsInWords =
    (margin : Float) → margin_check margin ≡ 0 → (a b : Leg) → leg_check a ≡ 0 → leg_check b ≡ 0 → InWords (grazes margin) a b (judged (pair_of margin a b))

-- And at a margin of zero, of either sign, what grazes is a zero: the pair is judged as the pair call judges it.
abbrev pub ZeroMarginInWords : Type 0
ZeroMarginInWords =
    (margin : Float) → is_zero margin ≡ true → (a b : Leg) → leg_check a ≡ 0 → leg_check b ≡ 0 → InWords is_zero a b (judged (pair_of margin a b))

-- Such are those that a listing or a count visits: a leg by itself gets this check from its call, and the legs of an accepted string pass it.
abbrev pub StringLegsAccepted : Type 0
StringLegsAccepted = (v : List Float) (closed : Bool) → stored_check v ≡ 0 → (l : Leg) → Memᴰ l (legs (points v) closed) → leg_check l ≡ 0

-- Nothing of a pair is lost where it is read in numbers and values: no two are judged alike.
abbrev pub JudgedApart : Type 0
JudgedApart = (p q : Pair) → judged p ≡ judged q → p ≡ q

-- ---- what another margin changes, of any two legs

-- the point stays, and whether the listings keep it
pub record SamePoint (j k : Judged) : Type 0 where
  pub same_point : j.point ≡ k.point
  pub same_kept : j.kept ≡ k.kept

abbrev pub PointStays : Type 0
PointStays =
    (m n : Float) → margin_check m ≡ 0 → margin_check n ≡ 0 → (a b : Leg) → SamePoint (judged (pair_of m a b)) (judged (pair_of n a b))

-- By a wider margin a pair may become grazing; else it is what it was. So a grazing pair stays one.
abbrev pub WiderMargin : Type 0
WiderMargin = (m n : Float) → le m n ≡ true → (a b : Leg) → ((judged (pair_of n a b)).class ≡ 3) ⊎ (pair_of n a b ≡ pair_of m a b)

-- Margins of the same value, as 0 and -0, make no difference.
abbrev pub ValueOfMargin : Type 0
ValueOfMargin = (m n : Float) → value m ≡ value n → (a b : Leg) → pair_of m a b ≡ pair_of n a b
