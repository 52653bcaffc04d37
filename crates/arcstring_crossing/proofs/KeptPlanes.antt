-- A leg's plane, planes kept vector by vector, the class of a pair by what is read from them, and the flags of a row. Assumes nothing.
use mathlib.Core.Path.{◌≡◌, sym, ap, ap₂, ◌∙◌}
use mathlib.Core.List.{List}
use Prim.Native.Nat.{ℕ, ◌+◌, ◌<◌, ◌≤◌}
use native.Mathlib.Omega.{arith}
use borrow.Author.Count.{below_more}
use lib.ListN.{length, get_or, set}
use lib.Seq.{get_or-set_same, get_or-set_other}
use lib.Ieee.{Float}
use Rattle.sphericalpoint.specs.declared.SphericalPoint.{SphericalPoint}
use Rattle.sphericalpoint.specs.Vector.{xyz_cross, xyz_neg}
use Rattle.arcstring.specs.Leg.{Leg, leg_at}
use Rattle.arcstring_pair.specs.declared.pair.Pair.TheVariants.{Apart}
use Rattle.arcstring_pair.specs.declared.pair.Pair.{Pair}
use Rattle.arcstring_pair.specs.Pair.{normal, meeting, side_from, side_to, side_values, pair_of, class_at}
use Rattle.arcstring_crossing.specs.declared.inner.planes.Plane.{Plane}
use Rattle.arcstring_crossing.specs.declared.inner.planes.Planes.{Planes}
use Rattle.arcstring_crossing.specs.Plane.{plane_of, plane_sides, plane_at, PlanesOf, AllApart, FlagsOf}

-- ---- by what was worked out for each leg

-- a leg's plane from its parts, each as a call returns it
pub plane_made : (l : Leg) (u v n m p q : SphericalPoint) → u ≡ l.from → v ≡ l.to → n ≡ xyz_cross u v → m ≡ xyz_cross u n → p ≡ xyz_neg m → q ≡ xyz_cross v n
    → record { normal = n; past_start = p; before_end = q } ≡ plane_of l
unfolding plane_of normal
plane_made l u v n m p q h i j k e f = rw (e, f, k, j, h, i)

pub by_planes : (margin : Float) (l m : Leg) (t : SphericalPoint) (s : List Float) → t ≡ xyz_cross (plane_of l).normal (plane_of m).normal
    → s ≡ plane_sides (plane_of l) (plane_of m) t
    → class_at margin t l m s ≡ pair_of margin l m
unfolding pair_of meeting side_values side_from side_to plane_of plane_sides
by_planes margin l m t s h k = ap (class_at margin t l m) k ∙ ap (λ (u : SphericalPoint). class_at margin u l m (plane_sides (plane_of l) (plane_of m) u)) h

-- the class of a pair by other names of its legs
pub pair_with_lem : (margin : Float) (a b x y : Leg) (r : Pair) → r ≡ pair_of margin a x → a ≡ b → x ≡ y → r ≡ pair_of margin b y
pair_with_lem margin a b x y r h d e = h ∙ ap₂ (pair_of margin) d e

-- ---- planes written one after the other

pub planes_next : {N : ℕ} (v : List Float) (n : ℕ) (old new : Planes N) (k : ℕ) (p : Plane) → PlanesOf v n k old → p ≡ plane_of (leg_at v n k)
    → plane_at new k ≡ p → ((j : ℕ) → j < k → plane_at new j ≡ plane_at old j) → PlanesOf v n (k + 1) new
planes_next v n old new k p all e here stay = below_more (λ (j : ℕ). plane_at new j ≡ plane_of (leg_at v n j)) k (λ j h. stay j h ∙ all j h) (here ∙ e)

-- ---- the class of a pair, by what is read of the second leg

pub read_class : (margin : Float) (l x : Leg) (a b : Plane) (t : SphericalPoint) (s : List Float) → a ≡ plane_of l → b ≡ plane_of x
    → t ≡ xyz_cross a.normal b.normal → s ≡ plane_sides a b t → class_at margin t l x s ≡ pair_of margin l x
read_class margin l x a b t s ha hb ht hs =
    by_planes margin l x t s (ht ∙ ap₂ (λ (p q : Plane). xyz_cross p.normal q.normal) ha hb) (hs ∙ ap₂ (λ (p q : Plane). plane_sides p q t) ha hb)

-- ---- the flags of a row

module _ (margin : Float) (a : Leg) (v : List Float) (n from k : ℕ) where
  -- one more pair that is apart, where its flag is 0
  pub aparts_next : (found f : ℕ) → (found ≡ 0 → AllApart margin a v n from k) → (f ≡ 0 → Apart ≡ pair_of margin a (leg_at v n k)) → found + f ≡ 0
      → AllApart margin a v n from (k + 1)
  aparts_next found f all here z =
      let o = all (omega arith) in
      let e : f ≡ 0 = omega arith in
      let more = below_more (λ (j : ℕ). from ≤ j → Apart ≡ pair_of margin a (leg_at v n j)) k (λ j h i. o.each j i h) (λ i. here e) in
      record { each = λ j i h. more j h i }

  pub flags_next : (flags : List ℕ) (f : ℕ) → k < length flags → FlagsOf margin a v n from k flags → (f ≡ 0 → Apart ≡ pair_of margin a (leg_at v n k))
      → FlagsOf margin a v n from (k + 1) (set flags k f)
  flags_next flags f fits old here =
      let more =
      below_more (λ (j : ℕ). from ≤ j → get_or (set flags k f) j 0 ≡ 0 → Apart ≡ pair_of margin a (leg_at v n j)) k
      (λ j h i z. old.each j i h (sym (get_or-set_other flags k j f 0 (λ e. absurd (omega arith))) ∙ z))
      (λ i z. here (sym (get_or-set_same flags k f 0 fits) ∙ z)) in
      record { each = λ j i h z. more j h i z }

pub aparts_none : (margin : Float) (a : Leg) (v : List Float) (n from : ℕ) → AllApart margin a v n from from
aparts_none margin a v n from = record { each = λ j i h. absurd (omega arith) }

pub flags_none : (margin : Float) (a : Leg) (v : List Float) (n from : ℕ) (flags : List ℕ) → FlagsOf margin a v n from from flags
flags_none margin a v n from flags = record { each = λ j i h z. absurd (omega arith) }

-- from a position on that lies past the end there are none
pub aparts_to : (margin : Float) (a : Leg) (v : List Float) (n from k to : ℕ) → to ≤ k → AllApart margin a v n from k → AllApart margin a v n from to
aparts_to margin a v n from k to h o = record { each = λ j i m. o.each j i (omega arith) }

pub flags_to : (margin : Float) (a : Leg) (v : List Float) (n from k to : ℕ) (flags : List ℕ) → to ≤ k → FlagsOf margin a v n from k flags
    → FlagsOf margin a v n from to flags
flags_to margin a v n from k to flags h o = record { each = λ j i m z. o.each j i (omega arith) z }
