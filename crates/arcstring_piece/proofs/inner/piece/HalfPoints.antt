-- The points that each half of a cut is built from, as they are written, floats in one list and numbers in another. Assumes nothing.
use mathlib.Core.Path.{◌≡◌, refl, sym, ap, ◌∙◌}
use mathlib.Core.Bool.{Bool, true, false}
use mathlib.Core.List.{List, [], ◌∷◌, ◌++◌}
use Prim.Native.Nat.{ℕ, ◌+◌, ◌-◌, ◌*◌, ◌≤◌, ◌<◌}
use native.Mathlib.Omega.{arith}
use lib.Dec.{ltb}
use lib.Ieee.{Float}
use lib.ListN.{length, take, drop, set, length-drop}
use lib.Seq.{length-take-le, take_all}
use borrow.Author.Tests.{lt-ltb, le-ltb}
use Rattle.arcstring_check.specs.Answer.{pick}
use Rattle.arcstring.specs.declared.inner.vertex.Vertex.{Vertex}
use Rattle.arcstring.specs.Points.{numbered, points}
use Rattle.arcstring.specs.Splice.{splice}
use Rattle.arcstring.proofs.Splices.{set-splice}
use Rattle.arcstring_insert.proofs.Shifts.{floats}
use Rattle.arcstring_piece.specs.Cut.{first_points, second_points}
use Rattle.arcstring_piece.proofs.inner.piece.TwoLists.{first_numbered, past_numbered, count_numbered, written}

module _
    (v : List Float) (bs : List ℕ) (i : ℕ) (x : Vertex) (whole : length v ≡ 3 * length bs) (low : i < length bs)
    (old mid last : List Float) (olds : List ℕ) where
  pub first_written : (mids : List ℕ) → i + 2 ≤ length mids → mid ≡ splice old 0 (take (3 * (i + 1)) v) → mids ≡ splice olds 0 (take (i + 1) bs)
      → last ≡ splice mid (3 * (i + 1)) (floats x.place)
      → take (i + 2) (numbered (points last) (set mids (i + 1) x.buoy)) ≡ first_points x (numbered (points v) bs) i
  unfolding first_points
  first_written mids room e g f =
      let lasts = set mids (i + 1) x.buoy in
      let k : i + 2 ≡ i + 1 + 1 = omega arith in
      ap (λ (n : ℕ). take n (numbered (points last) lasts)) k
      ∙ written (take (3 * (i + 1)) v) (floats x.place) (take (i + 1) bs) (x.buoy ∷ []) (i + 1) 1
      (length-take-le (3 * (i + 1)) v (omega arith)) (length-take-le (i + 1) bs (omega arith)) refl refl
      old mid last olds mids lasts e f g (set-splice mids (i + 1) x.buoy (omega arith))
      ∙ ap (λ (vs : List Vertex). vs ++ (x ∷ [])) (first_numbered (i + 1) v bs)

  module _ (lasts : List ℕ) (some : 1 ≤ length olds) (first : mid ≡ splice old 0 (floats x.place)) where
    abbrev mids : List ℕ
    mids = set olds 0 x.buoy

    -- the point, and n whole vertices after it
    after_point : (w : List Float) (cs : List ℕ) (n k : ℕ) → length w ≡ 3 * n → length cs ≡ n → k ≡ 1 + n → last ≡ splice mid 3 w → lasts ≡ splice mids 1 cs
        → take k (numbered (points last) lasts) ≡ x ∷ numbered (points w) cs
    after_point w cs n k lw lc e f h =
        ap (λ (j : ℕ). take j (numbered (points last) lasts)) e
        ∙ written (floats x.place) w (x.buoy ∷ []) cs 1 n refl refl lw lc old mid last olds mids lasts first f (set-splice olds 0 x.buoy some) h

    abbrev vs : List Vertex
    vs = numbered (points v) bs

    -- what stands after the point, by whether the leg is the closing one
    by_end_lem : (b : Bool) → ltb (i + 1) (length vs) ≡ b → x ∷ pick b (drop (i + 1) vs) (take 1 vs) ≡ second_points x vs i
    unfolding second_points
    by_end_lem b e = ap (λ (c : Bool). x ∷ pick c (drop (i + 1) vs) (take 1 vs)) (sym e)

    pub second_written : i + 1 < length bs → last ≡ splice mid 3 (take (3 * (length bs - 1 - i)) (drop (3 * (i + 1)) v))
        → lasts ≡ splice mids 1 (take (length bs - 1 - i) (drop (i + 1) bs)) → take (length bs - i) (numbered (points last) lasts) ≡ second_points x vs i
    second_written h f g =
        let n = length bs - 1 - i in
        let d : length (drop (3 * (i + 1)) v) ≡ 3 * n = rw length-drop (omega arith) in
        let c : length (drop (i + 1) bs) ≡ n = rw length-drop (omega arith) in
        after_point (drop (3 * (i + 1)) v) (drop (i + 1) bs) n (length bs - i) d c (omega arith)
        (f ∙ ap (splice mid 3) (take_all (3 * n) (drop (3 * (i + 1)) v) (omega arith)))
        (g ∙ ap (splice mids 1) (take_all n (drop (i + 1) bs) (omega arith)))
        ∙ ap (λ (us : List Vertex). x ∷ us) (past_numbered (i + 1) v bs)
        ∙ by_end_lem true (lt-ltb (i + 1) (length vs) (omega (arith, count_numbered (length bs) v bs whole refl)))

    pub second_closing : length bs ≤ i + 1 → last ≡ splice mid 3 (take 3 v) → lasts ≡ splice mids 1 (take 1 bs)
        → take 2 (numbered (points last) lasts) ≡ second_points x vs i
    second_closing h f g =
        after_point (take 3 v) (take 1 bs) 1 2 (length-take-le 3 v (omega arith)) (length-take-le 1 bs (omega arith)) refl f g
        ∙ ap (λ (us : List Vertex). x ∷ us) (first_numbered 1 v bs)
        ∙ by_end_lem false (le-ltb (i + 1) (length vs) (omega (arith, count_numbered (length bs) v bs whole refl)))
