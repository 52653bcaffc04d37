-- What another margin changes of a pair: its point stays, and whether the listings keep it; by a wider one it may become grazing, else it is what it was. Of
-- any two legs. Assumes nothing.
use mathlib.Core.Path.{◌≡◌, refl, sym, ap, ap₂, ◌∙◌}
use mathlib.Core.Logic.{◌⊎◌, inl, inr}
use mathlib.Core.Bool.{Bool, true, false, not, ◌&&◌, ◌||◌}
use mathlib.Core.List.{List, [], ◌∷◌}
use Prim.Native.Nat.{ℕ}
use native.Mathlib.Omega.{arith}
use lib.Ieee.{Float, nan, inf, fin, of_bits, lt, le}
use Rattle.ieee754.specs.Size.{abs}
use Rattle.ieee754.specs.Value.{zero_float, is_zero}
use Rattle.ieee754.proofs.Tests.{never}
use Rattle.ieee754.proofs.ByValue.{zero-value}
use Rattle.ieee754.proofs.Comparisons.{lt-value, le-value, eq-zero}
use Rattle.ieee754.proofs.Order.{le_not_lt}
use Rattle.sphericalpoint.specs.declared.SphericalPoint.{SphericalPoint}
use Rattle.sphericalpoint.specs.Vector.{xyz_neg}
use Rattle.arcstring_check.specs.Answer.{number_if, pick}
use Rattle.arcstring_check.specs.Check.{margin_check}
use Rattle.arcstring.specs.Leg.{Leg}
use Rattle.arcstring_sides.specs.Sides.{grazes, is_above, is_below, sign_negative, sign_positive, some_side, every_side}
use Rattle.arcstring_sides.proofs.Signs.{negative_of_other, positive_of_other}
use Rattle.arcstring_sides.proofs.Margins.{holds, wider, no_graze_no_zero}
use Rattle.arcstring_pair.specs.declared.pair.Pair.{Pair}
use Rattle.arcstring_pair.specs.declared.pair.Pair.TheVariants.{Clean, End, Grazing, Apart}
use Rattle.arcstring_pair.specs.declared.pair.Outcome.{Outcome}
use Rattle.arcstring_pair.specs.declared.pair.Outcome.TheVariants.{Kept, Dropped, None}
use Rattle.arcstring_pair.specs.Pair.{meeting, side_values, at_end, kept_or_dropped, grazing_outcome, end_or_clean, class_at, pair_of, judged}
use Rattle.arcstring_pair.specs.PairLaws.{SamePoint, PointStays, WiderMargin, ValueOfMargin}

-- ---- a margin that is not refused

-- it is from 0 on
from_zero : (margin : Float) → margin_check margin ≡ 0 → le zero_float margin ≡ true
unfolding margin_check
from_zero nan h = absurd (let z : ◌≡◌ {A = ℕ} 9 0 = h in omega arith)
from_zero (inf s) h = absurd (let z : ◌≡◌ {A = ℕ} 9 0 = h in omega arith)
from_zero (fin s m e) h = le_not_lt (fin s m e) zero_float tt tt ∙ ap not (none (lt (fin s m e) zero_float) h)
  where
    none : (b : Bool) → number_if b 9 ≡ 0 → b ≡ false
    none true k = absurd (let z : ◌≡◌ {A = ℕ} 9 0 = k in omega arith)
    none false k = refl

-- and what does not graze by it is no zero
pub not-zero : (margin x : Float) → margin_check margin ≡ 0 → grazes margin x ≡ false → is_zero x ≡ false
not-zero margin x h = no_graze_no_zero margin x (from_zero margin h)

-- a zero is such a margin
pub zero_accepted : (margin : Float) → is_zero margin ≡ true → margin_check margin ≡ 0
unfolding margin_check
zero_accepted nan h = never h
zero_accepted (inf s) h = never h
zero_accepted (fin s m e) h =
    let x = fin s m e in
    let z : lt zero_float zero_float ≡ false = unfold lt in refl in
    ap (λ (b : Bool). number_if b 9) (lt-value x zero_float zero_float zero_float (zero-value x (holds h)) refl ∙ z)

-- ---- the point stays

-- of side values that do not graze the comparisons with zero say the signs
module _ (margin : Float) (h : margin_check margin ≡ 0) where
  by_signs : (s : List Float) → some_side (grazes margin) s ≡ false
      → (every_side is_above s ≡ every_side sign_positive s) × (every_side is_below s ≡ every_side sign_negative s)
  unfolding some_side every_side
  by_signs [] k = (refl, refl)
  by_signs (x ∷ s) k =
      let z = not-zero margin x h (neither (grazes margin x) (some_side (grazes margin) s) k).0 in
      let rest = by_signs s (neither (grazes margin x) (some_side (grazes margin) s) k).1 in
      (ap₂ ◌&&◌ (above x z) rest.0, ap₂ ◌&&◌ (below x z) rest.1)
    where
      neither : (a b : Bool) → (a || b) ≡ false → (a ≡ false) × (b ≡ false)
      neither false false k = (refl, refl)
      neither false true k = never (sym k)
      neither true b k = never (sym k)

      above : (x : Float) → is_zero x ≡ false → is_above x ≡ sign_positive x
      above x z = unfold is_above of_bits in positive_of_other x (eq-zero x ∙ z)

      below : (x : Float) → is_zero x ≡ false → is_below x ≡ sign_negative x
      below x z = unfold is_below of_bits in negative_of_other x (eq-zero x ∙ z)

-- a pair whose signs agree has the point, and keeps it, as a grazing one does
agreeing : (p : SphericalPoint) (a b : Leg) → SamePoint (judged (end_or_clean p a b)) (judged (Grazing (kept_or_dropped p a b)))
unfolding end_or_clean kept_or_dropped
agreeing p a b = go (at_end p a b) refl
  where
    go : (e : Bool) → at_end p a b ≡ e → SamePoint (judged (end_or_clean p a b)) (judged (Grazing (kept_or_dropped p a b)))
    go true h = rw h record { same_point = refl; same_kept = refl }
    go false h = rw h record { same_point = refl; same_kept = refl }

-- whatever the margin, it is that of a grazing pair
module _ (t : SphericalPoint) (a b : Leg) where
  abbrev outcome : Bool → Bool → Outcome
  outcome p n = pick p (kept_or_dropped t a b) (pick n (kept_or_dropped (xyz_neg t) a b) None)

  as_grazing : (g above below p n : Bool) → (g ≡ false → (above ≡ p) × (below ≡ n))
      → SamePoint (judged (pick g (Grazing (outcome p n)) (pick above (end_or_clean t a b) (pick below (end_or_clean (xyz_neg t) a b) Apart))))
      (judged (Grazing (outcome p n)))
  as_grazing true above below p n h = record { same_point = refl; same_kept = refl }
  as_grazing false above below p n h = rw ((h refl).0, (h refl).1) (go p n)
    where
      go : (p n : Bool) → SamePoint (judged (pick p (end_or_clean t a b) (pick n (end_or_clean (xyz_neg t) a b) Apart))) (judged (Grazing (outcome p n)))
      go true n = agreeing t a b
      go false true = agreeing (xyz_neg t) a b
      go false false = record { same_point = refl; same_kept = refl }

pub point_stays : PointStays
unfolding pair_of class_at grazing_outcome
point_stays m n hm hn a b =
    let t = meeting a b in
    let s = side_values a b t in
    let j = as_grazing t a b (some_side (grazes m) s) (every_side is_above s) (every_side is_below s) (every_side sign_positive s) (every_side sign_negative s)
    (by_signs m hm s) in
    let k = as_grazing t a b (some_side (grazes n) s) (every_side is_above s) (every_side is_below s) (every_side sign_positive s) (every_side sign_negative s)
    (by_signs n hn s) in
    record { same_point = j.same_point ∙ sym k.same_point; same_kept = j.same_kept ∙ sym k.same_kept }

-- ---- a wider margin

some_wider : (m n : Float) → le m n ≡ true → (s : List Float) → some_side (grazes n) s ≡ false → some_side (grazes m) s ≡ false
unfolding some_side
some_wider m n h [] k = refl
some_wider m n h (x ∷ s) k = go (grazes m x) (grazes n x) (wider m n x h) k (some_wider m n h s)
  where
    go : (a b : Bool) → (a ≡ true → b ≡ true) → (b || some_side (grazes n) s) ≡ false → (some_side (grazes n) s ≡ false → some_side (grazes m) s ≡ false)
        → (a || some_side (grazes m) s) ≡ false
    go true true i k rest = never (sym k)
    go true false i k rest = never (i refl)
    go false true i k rest = never (sym k)
    go false false i k rest = rest k

-- the class where some side value grazes, or none
abbrev classed : SphericalPoint → Leg → Leg → List Float → Bool → Pair
classed t a b s g =
    pick g (Grazing (grazing_outcome t a b s))
    (pick (every_side is_above s) (end_or_clean t a b) (pick (every_side is_below s) (end_or_clean (xyz_neg t) a b) Apart))

pub wider_margin : WiderMargin
unfolding pair_of class_at
wider_margin m n h a b =
    let t = meeting a b in
    let s = side_values a b t in
    go (classed t a b s) refl (some_side (grazes n) s) (some_side (grazes m) s) (some_wider m n h s)
  where
    go : (class : Bool → Pair) → (judged (class true)).class ≡ 3 → (wide narrow : Bool) → (wide ≡ false → narrow ≡ false)
        → ((judged (class wide)).class ≡ 3) ⊎ (class wide ≡ class narrow)
    go class e true narrow i = inl e
    go class e false narrow i = inr (ap class (sym (i refl)))

-- ---- margins of one value

pub value_of_margin : ValueOfMargin
unfolding pair_of class_at grazes
value_of_margin m n h a b =
    let t = meeting a b in
    let s = side_values a b t in
    ap (λ (graze : Float → Bool). classed t a b s (some_side graze s)) (λ i x. le-value (abs x) (abs x) m n refl h i)
