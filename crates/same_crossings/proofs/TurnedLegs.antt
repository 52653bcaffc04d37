-- The class of a pair of legs, with the point of a clean one by value: the same where either leg is turned round, where the two legs trade places, and where
-- the ends of one are others of the same value. For all floats, NaN and the infinities included. Assumes nothing.
use mathlib.Core.Path.{◌≡◌, refl, sym, ap, ap₂, ◌∙◌}
use mathlib.Core.Bool.{Bool, true, false, ◌&&◌, ◌||◌, or_comm, or_assoc}
use mathlib.Core.List.Permᴰ
use mathlib.Core.List.{List, [], ◌∷◌, Permᴰ}
use lib.Dec.{T}
use lib.Ieee.Fits.{and_l}
use lib.Ieee.{Float, nan, inf, fin, neg, lt}
use Rattle.ieee754.specs.Size.{abs}
use Rattle.ieee754.specs.Value.{value, zero_float}
use Rattle.ieee754.proofs.ByValue.{abs-value}
use Rattle.ieee754.proofs.Comparisons.{lt-value, le-value, pos_neg, neg_pos, not_both_signs}
use Rattle.sphericalpoint.specs.declared.SphericalPoint.{SphericalPoint}
use Rattle.sphericalpoint.specs.Vector.{xyz_cross, xyz_neg, xyz_eq}
use Rattle.arcstring_check.specs.Answer.{pick}
use Rattle.arcstring_pair.specs.declared.pair.Pair.{Pair}
use Rattle.arcstring_pair.specs.declared.pair.Pair.TheVariants.{Clean, End, Grazing, Apart}
use Rattle.arcstring_pair.specs.declared.pair.Outcome.{Outcome}
use Rattle.arcstring.specs.Leg.{Leg}
use Rattle.arcstring_sides.specs.Sides.{grazes, is_above, is_below, some_side, every_side}
use Rattle.arcstring_pair.specs.Pair.{normal, meeting, side_from, side_to, side_values, at_end}
use Rattle.arcstring_pair.specs.Pair.{grazing_outcome, end_or_clean, class_at, pair_of}
use Rattle.same_crossings.specs.Changes.{PointValue, point_value}
use Rattle.sphericalpoint.proofs.VectorValues.{Like, like, like_trans, Same, same_refl, same_trans, same_neg, same_dot, same_cross, same_eq}
use Rattle.sphericalpoint.proofs.VectorValues.{neg_twice, cross_swap, cross_neg_left, cross_neg_right, dot_neg_right}
use Rattle.same_crossings.proofs.PointValues.{same_point}
use Rattle.same_crossings.proofs.LegLists.{turned}

-- ---- a pair's class, with the point of a clean one by value

pub data PairValue : Type 0 where
  clean_at : PointValue → PairValue
  end_class grazing_class apart_class : PairValue

abbrev pub pair_value : Pair → PairValue
pair_value (Clean p) = clean_at (point_value p)
pair_value (End p) = end_class
pair_value (Grazing o) = grazing_class
pair_value Apart = apart_class

abbrev by_tests : Bool → Bool → Bool → PairValue → PairValue → PairValue
by_tests some above below x y = pick some grazing_class (pick above x (pick below y apart_class))

by_tests_value : (z p n : Bool) (o : Outcome) (x y : Pair) → pair_value (pick z (Grazing o) (pick p x (pick n y Apart))) ≡ by_tests z p n (pair_value x)
    (pair_value y)
by_tests_value true p n o x y = refl
by_tests_value false true n o x y = refl
by_tests_value false false true o x y = refl
by_tests_value false false false o x y = refl

by_tests_opposite : (z p n : Bool) (x y : PairValue) → (T p → T n → ⊥) → by_tests z n p y x ≡ by_tests z p n x y
by_tests_opposite true p n x y h = refl
by_tests_opposite false true true x y h = absurd (h tt tt)
by_tests_opposite false true false x y h = refl
by_tests_opposite false false true x y h = refl
by_tests_opposite false false false x y h = refl

end_or_clean-value : (p : SphericalPoint) (a b : Leg) → pair_value (end_or_clean p a b) ≡ pick (at_end p a b) end_class (clean_at (point_value p))
unfolding end_or_clean
end_or_clean-value p a b = go (at_end p a b)
  where
    go : (e : Bool) → pair_value (pick e (End p) (Clean p)) ≡ pick e end_class (clean_at (point_value p))
    go true = refl
    go false = refl

-- ---- side values of the opposite sign

pub data Opposite : List Float → List Float → Type 0 where
  none : Opposite [] []
  one : {x y : Float} {l m : List Float} → Like x (neg y) → Opposite l m → Opposite (x ∷ l) (y ∷ m)

-- the size does not change with the sign
size_neg : (x : Float) → abs (neg x) ≡ abs x
unfolding abs neg
size_neg nan = refl
size_neg (inf s) = refl
size_neg (fin s m e) = refl

grazes_opposite : (margin x y : Float) → Like x (neg y) → grazes margin x ≡ grazes margin y
unfolding grazes
grazes_opposite margin x y (like p) = le-value (abs x) (abs y) margin margin (abs-value x (neg y) p ∙ ap value (size_neg y)) refl

module _ (x y : Float) where
  above_opposite : Like x (neg y) → is_above x ≡ is_below y
  unfolding is_above is_below
  above_opposite (like p) = lt-value zero_float zero_float x (neg y) refl p ∙ pos_neg y

  below_opposite : Like x (neg y) → is_below x ≡ is_above y
  unfolding is_above is_below
  below_opposite (like p) = lt-value x (neg y) zero_float zero_float p refl ∙ neg_pos y

module _ (f g : Float → Bool) (e : (x y : Float) → Like x (neg y) → f x ≡ g y) where
  some_opposite : {l m : List Float} → Opposite l m → some_side f l ≡ some_side g m
  unfolding some_side
  some_opposite none = refl
  some_opposite (one {x} {y} h o) = ap₂ ◌||◌ (e x y h) (some_opposite o)

  every_opposite : {l m : List Float} → Opposite l m → every_side f l ≡ every_side g m
  unfolding every_side
  every_opposite none = refl
  every_opposite (one {x} {y} h o) = ap₂ ◌&&◌ (e x y h) (every_opposite o)

or_turn : (a b c : Bool) → (a || (b || c)) ≡ (b || (a || c))
or_turn true true c = refl
or_turn true false c = refl
or_turn false b c = refl

pub and_turn : (a b c : Bool) → (a && (b && c)) ≡ (b && (a && c))
and_turn true b c = refl
and_turn false true c = refl
and_turn false false c = refl

module _ (f : Float → Bool) where
  some_order : {l m : List Float} → Permᴰ l m → some_side f l ≡ some_side f m
  unfolding some_side
  some_order Permᴰ.nil = refl
  some_order (Permᴰ.cons e d) = ap₂ ◌||◌ (ap f e) (some_order d)
  some_order (Permᴰ.swap {a} {b} {l = l} e₁ e₂) = rw (← e₁, ← e₂) (or_turn (f a) (f b) (some_side f l))
  some_order (Permᴰ.trans d₁ d₂) = some_order d₁ ∙ some_order d₂

  every_order : {l m : List Float} → Permᴰ l m → every_side f l ≡ every_side f m
  unfolding every_side
  every_order Permᴰ.nil = refl
  every_order (Permᴰ.cons e d) = ap₂ ◌&&◌ (ap f e) (every_order d)
  every_order (Permᴰ.swap {a} {b} {l = l} e₁ e₂) = rw (← e₁, ← e₂) (and_turn (f a) (f b) (every_side f l))
  every_order (Permᴰ.trans d₁ d₂) = every_order d₁ ∙ every_order d₂

not_both : (x : Float) (l : List Float) → T (every_side is_above (x ∷ l)) → T (every_side is_below (x ∷ l)) → ⊥
unfolding every_side is_above is_below
not_both x l p n = not_both_signs x (and_l (lt zero_float x) (every_side is_above l) p) (and_l (lt x zero_float) (every_side is_below l) n)

-- ---- the class of the opposite point at the opposite side values, in some order, for legs with the same ends

module _ (a b a' b' : Leg) (ends : (p : SphericalPoint) → at_end p a' b' ≡ at_end p a b) where
  at_end-value : {p q : SphericalPoint} → Same p q → at_end p a b ≡ at_end q a b
  unfolding at_end
  at_end-value s =
      λ i. same_eq s (same_refl a.from) i || same_eq s (same_refl a.to) i || same_eq s (same_refl b.from) i || same_eq s (same_refl b.to) i

  end_or_clean_same : {p q : SphericalPoint} → Same p q → pair_value (end_or_clean p a' b') ≡ pair_value (end_or_clean q a b)
  end_or_clean_same {p} {q} s =
      end_or_clean-value p a' b'
      ∙ (λ i. pick ((ends p ∙ at_end-value s) i) end_class (clean_at (same_point s i)))
      ∙ sym (end_or_clean-value q a b)

  class_opposite : (margin : Float) (t : SphericalPoint) {t' : SphericalPoint} (x : Float) (s : List Float) {s' l : List Float} → Same t' (xyz_neg t)
      → Opposite s' l
      → Permᴰ l (x ∷ s)
      → pair_value (class_at margin t' a' b' s') ≡ pair_value (class_at margin t a b (x ∷ s))
  unfolding class_at
  class_opposite margin t {t'} x s {s'} {l} same o d =
      by_tests_value (some_side (grazes margin) s') (every_side is_above s') (every_side is_below s') (grazing_outcome t' a' b' s') (end_or_clean t' a' b')
      (end_or_clean (xyz_neg t') a' b')
      ∙ (λ i. by_tests
      ((some_opposite (grazes margin) (grazes margin) (grazes_opposite margin) o ∙ some_order (grazes margin) d) i)
      ((every_opposite is_above is_below above_opposite o ∙ every_order is_below d) i)
      ((every_opposite is_below is_above below_opposite o ∙ every_order is_above d) i)
      (end_or_clean_same same i) (end_or_clean_same (same_trans (same_neg same) (neg_twice t)) i))
      ∙ by_tests_opposite (some_side (grazes margin) (x ∷ s)) (every_side is_above (x ∷ s)) (every_side is_below (x ∷ s)) _ _ (not_both x s)
      ∙ sym (by_tests_value (some_side (grazes margin) (x ∷ s)) (every_side is_above (x ∷ s)) (every_side is_below (x ∷ s)) (grazing_outcome t a b (x ∷ s))
      (end_or_clean t a b)
      (end_or_clean (xyz_neg t) a b))

-- ---- what turns sign with a leg

-- c has the ends of l by value, the other way round
record Turns (l c : Leg) : Type 0 where
  from : Same c.from l.to
  to : Same c.to l.from

turned_turns : (l : Leg) → Turns l (turned l)
turned_turns l = record { from = same_refl l.to; to = same_refl l.from }

normal_turned : (l c : Leg) → Turns l c → Same (normal c) (xyz_neg (normal l))
unfolding normal
normal_turned l c h = same_trans (same_cross h.from h.to) (cross_swap l.from l.to)

module _ (a b : Leg) where
  meeting_first : (c : Leg) → Turns a c → Same (meeting c b) (xyz_neg (meeting a b))
  unfolding meeting
  meeting_first c h = same_trans (same_cross (normal_turned a c h) (same_refl (normal b))) (cross_neg_left (normal a) (normal b))

  meeting_second : Same (meeting a (turned b)) (xyz_neg (meeting a b))
  unfolding meeting
  meeting_second = same_trans (same_cross (same_refl (normal a)) (normal_turned b (turned b) (turned_turns b))) (cross_neg_right (normal a) (normal b))

  meeting_traded : Same (meeting b a) (xyz_neg (meeting a b))
  unfolding meeting
  meeting_traded = cross_swap (normal a) (normal b)

module _ (l : Leg) (t : SphericalPoint) {t' : SphericalPoint} (s : Same t' (xyz_neg t)) where
  side_from_opposite : Like (side_from l t') (neg (side_from l t))
  unfolding side_from
  side_from_opposite = like_trans (same_dot (same_refl (xyz_neg (xyz_cross l.from (normal l)))) s) (dot_neg_right (xyz_neg (xyz_cross l.from (normal l))) t)

  side_to_opposite : Like (side_to l t') (neg (side_to l t))
  unfolding side_to
  side_to_opposite = like_trans (same_dot (same_refl (xyz_cross l.to (normal l))) s) (dot_neg_right (xyz_cross l.to (normal l)) t)

  module _ (c : Leg) (h : Turns l c) where
    arm_turned : (v u : SphericalPoint) → Same v u → Same (xyz_cross v (normal c)) (xyz_neg (xyz_cross u (normal l)))
    arm_turned v u r = same_trans (same_cross r (normal_turned l c h)) (cross_neg_right u (normal l))

    side_from_turned : Like (side_from c t') (neg (side_to l t))
    unfolding side_from side_to
    side_from_turned =
        let arm = xyz_cross l.to (normal l) in
        like_trans (same_dot (same_trans (same_neg (arm_turned c.from l.to h.from)) (neg_twice arm)) s) (dot_neg_right arm t)

    side_to_turned : Like (side_to c t') (neg (side_from l t))
    unfolding side_from side_to
    side_to_turned = like_trans (same_dot (arm_turned c.to l.from h.to) s) (dot_neg_right (xyz_neg (xyz_cross l.from (normal l))) t)

-- ---- the class stays

or_last : (a b c : Bool) → (a || b || c) ≡ (a || c || b)
or_last a b c = or_assoc a b c ∙ ap (λ (d : Bool). a || d) (or_comm b c) ∙ sym (or_assoc a c b)

or_halves : (a b c d : Bool) → (c || d || a || b) ≡ (a || b || c || d)
or_halves a b c d = or_assoc (c || d) a b ∙ or_comm (c || d) (a || b) ∙ sym (or_assoc (a || b) c d)

module _ (a b : Leg) where
  ends_first : (c : Leg) → Turns a c → (p : SphericalPoint) → at_end p c b ≡ at_end p a b
  unfolding at_end
  ends_first c h p =
      ap (λ (d : Bool). d || xyz_eq p b.from || xyz_eq p b.to)
      (ap₂ ◌||◌ (same_eq (same_refl p) h.from) (same_eq (same_refl p) h.to) ∙ or_comm (xyz_eq p a.to) (xyz_eq p a.from))

  ends_second : (p : SphericalPoint) → at_end p a (turned b) ≡ at_end p a b
  unfolding at_end
  ends_second p = or_last (xyz_eq p a.from || xyz_eq p a.to) (xyz_eq p b.to) (xyz_eq p b.from)

  ends_traded : (p : SphericalPoint) → at_end p b a ≡ at_end p a b
  unfolding at_end
  ends_traded p = or_halves (xyz_eq p a.from) (xyz_eq p a.to) (xyz_eq p b.from) (xyz_eq p b.to)

module _ (margin : Float) (a b : Leg) where
  first_turns : (c : Leg) → Turns a c → pair_value (pair_of margin c b) ≡ pair_value (pair_of margin a b)
  unfolding pair_of side_values
  first_turns c h =
      let t = meeting a b in
      let m = meeting_first a b c h in
      class_opposite a b c b (ends_first a b c h) margin t (side_from a t) _ m
      (one (side_from_turned a t m c h) (one (side_to_turned a t m c h) (one (side_from_opposite b t m) (one (side_to_opposite b t m) none))))
      (Permᴰ.swap refl refl)

  pub first_turned : pair_value (pair_of margin (turned a) b) ≡ pair_value (pair_of margin a b)
  first_turned = first_turns (turned a) (turned_turns a)

  pub second_turned : pair_value (pair_of margin a (turned b)) ≡ pair_value (pair_of margin a b)
  unfolding pair_of side_values
  second_turned =
      let t = meeting a b in
      let m = meeting_second a b in
      let r = turned_turns b in
      class_opposite a b a (turned b) (ends_second a b) margin t (side_from a t) _ m
      (one (side_from_opposite a t m) (one (side_to_opposite a t m) (one (side_from_turned b t m (turned b) r) (one (side_to_turned b t m (turned b) r) none))))
      (Permᴰ.cons refl (Permᴰ.cons refl (Permᴰ.swap refl refl)))

  pub legs_traded : pair_value (pair_of margin b a) ≡ pair_value (pair_of margin a b)
  unfolding pair_of side_values
  legs_traded =
      let t = meeting a b in
      let m = meeting_traded a b in
      class_opposite a b b a (ends_traded a b) margin t (side_from a t) _ m
      (one (side_from_opposite b t m) (one (side_to_opposite b t m) (one (side_from_opposite a t m) (one (side_to_opposite a t m) none))))
      (halves _ _ _ _)
    where
      halves : (s1 s2 s3 s4 : Float) → Permᴰ (s3 ∷ s4 ∷ s1 ∷ s2 ∷ []) (s1 ∷ s2 ∷ s3 ∷ s4 ∷ [])
      halves s1 s2 s3 s4 =
          Permᴰ.trans (Permᴰ.middle s1 (s3 ∷ s4 ∷ []) (s2 ∷ [])) (Permᴰ.cons refl (Permᴰ.middle s2 (s3 ∷ s4 ∷ []) []))

-- other ends of the same value: turned twice
pub first_alike : (margin : Float) (a c b : Leg) → Same c.from a.from → Same c.to a.to
    → pair_value (pair_of margin c b) ≡ pair_value (pair_of margin a b)
first_alike margin a c b from to = first_turns margin (turned a) b c (record { from = from; to = to }) ∙ first_turned margin a b
