-- The call that cuts a string at marks: what it answers are the pieces of a cut, open, long, linked and within the limit; and *uncut*, where no mark cuts.
-- Assumes nothing.
use mathlib.Core.Path.{◌≡◌, refl, ap, subst}
use mathlib.Core.List.{List, [], ◌∷◌, map}
use mathlib.Core.Option.{Option, none, some}
use Prim.Native.Nat.{ℕ, ◌*◌, ◌≤◌, ◌<◌}
use native.Mathlib.Omega.{arith}
use lib.ListN.{length, length-map}
use lib.Ieee.{Float}
use Rattle.sphericalpoint.specs.declared.SphericalPoint.{SphericalPoint}
use Rattle.arcstring_check.specs.Answer.{Answer, answered, unless_refused, first_of, and_then}
use Rattle.arcstring_check.specs.Check.{most_points, string_check, points_check, room_check, rooms_check}
use Rattle.arcstring_check.proofs.Answers.{unless_answered, answered_before}
use Rattle.arcstring.specs.declared.inner.vertex.Vertex.{Vertex}
use Rattle.arcstring.specs.Points.{StringOf, numbered, place_of, points}
use Rattle.arcstring.specs.Written.{points_in}
use Rattle.arcstring_split_leg.specs.SplitLeg.{unless_uncut}
use Rattle.arcstring_split_leg.proofs.Uncut.{uncut_one, cut_two}
use Rattle.arcstring_mark_cut.specs.CutAtMarks.{opened, together, cut_at_each, open_string, cut_into, cut_checked, cut_at_marks}
use Rattle.arcstring_mark_cut.specs.CutLaws.{Long, EachOpen, vertices_of, cuts_made, CutCall, CallCuts, CallUncut}
use Rattle.arcstring_mark_cut.proofs.OpenPieces.{strings, points-together}
use Rattle.arcstring_mark_cut.proofs.Stages.{last_stage}
use Rattle.arcstring_mark_cut.proofs.CutLaws.{cut_pieces}

-- ---- what is answered past the checks comes of the pieces of a cut

module _ {A : Type 0} (room buoy_room counts_room : ℕ) where
  fitted : (o p : Option (List (StringOf A))) → cut_into room buoy_room counts_room o ≡ answered p → o ≡ p
  fitted none p h = cc
  fitted (some ss) p h =
      let e : answered (some ss) ≡ answered p =
      unless_answered (first_of (rooms_check (points_in ss) room buoy_room) (room_check (length ss) counts_room)) (answered (some ss)) p h in
      cc

  past_checks : (pt : A → SphericalPoint) (v : List Float) (bs : List ℕ) (extra : List Float) (es : List ℕ) (a : Answer (List (List A)))
      (o : Option (List (StringOf A)))
      → cut_checked pt v bs extra es room buoy_room counts_room a ≡ answered o
      → (xss : List (List A)) × (a ≡ answered xss) × (unless_uncut (map (open_string pt) xss) ≡ o)
  unfolding cut_checked
  past_checks pt v bs extra es a o h =
      let into : List (List A) → Answer (Option (List (StringOf A))) = λ xss. cut_into room buoy_room counts_room (unless_uncut (map (open_string pt) xss)) in
      let past : unless_refused (points_check extra es) (and_then a into) ≡ answered o = unless_answered (string_check v bs) _ o h in
      let r = answered_before a into o (unless_answered (points_check extra es) (and_then a into) o past) in
      (r.0, r.1, fitted (unless_uncut (map (open_string pt) r.0)) o r.2)

-- ---- pieces as strings

all_open : (xss : List (List Vertex)) → EachOpen (strings xss)
all_open [] = tt
all_open (xs ∷ xss) = (record { is_open = refl; near_vertices = refl }, all_open xss)

vertices_back : (xss : List (List Vertex)) → map vertices_of (strings xss) ≡ xss
vertices_back [] = refl
vertices_back (xs ∷ xss) = ap (λ (yss : List (List Vertex)). xs ∷ yss) (vertices_back xss)

two_each : {A : Type 0} (xss : List (List A)) → Long xss → 2 * length xss ≤ together xss
two_each [] h = omega arith
two_each (xs ∷ xss) h = omega (arith, h.0, two_each xss h.1)

-- ---- the call

module _ (marks vertices : List Vertex) (xss : List (List Vertex)) (cut : cut_at_each place_of marks vertices ≡ answered xss) where
  call_pieces : 2 ≤ length xss → CutCall vertices marks (strings xss)
  call_pieces two =
      let p = cut_pieces Vertex place_of marks vertices xss cut in
      let small : together xss ≤ most_points = (last_stage marks vertices place_of xss cut).limit two in
      record {
        each_open = all_open xss;
        each_long = rw (vertices_back xss) (p.long two);
        pieces = rw (vertices_back xss) p;
        few = omega (arith, two_each xss (p.long two), length-map xss (open_string place_of), small);
        limit = rw (points-together xss) small;
      }

  call_none : length xss < 2 → cuts_made place_of marks (vertices ∷ []) ≡ 0
  call_none h = omega (arith, (cut_pieces Vertex place_of marks vertices xss cut).count)

pub call_cuts : CallCuts
unfolding cut_at_marks
call_cuts v bs closed extra es room buoy_room counts_room ss h =
    let xs = opened (numbered (points v) bs) closed in
    let marks = numbered (points extra) es in
    let r = past_checks room buoy_room counts_room place_of v bs extra es (cut_at_each place_of marks xs) (some ss) h in
    let t = cut_two (strings r.0) ss r.2 in
    subst (CutCall xs marks) t.1 (call_pieces marks xs r.0 r.1 (omega (arith, t.0, length-map r.0 (open_string place_of))))

pub call_uncut : CallUncut
unfolding cut_at_marks
call_uncut v bs closed extra es room buoy_room counts_room h =
    let xs = opened (numbered (points v) bs) closed in
    let marks = numbered (points extra) es in
    let r = past_checks room buoy_room counts_room place_of v bs extra es (cut_at_each place_of marks xs) none h in
    call_none marks xs r.0 r.1 (omega (arith, uncut_one (strings r.0) r.2, length-map r.0 (open_string place_of)))
