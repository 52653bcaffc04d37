-- A leg and its reverse: the test of a mark works out the same floats of both, but for the normal, which is negated by value; so they hold the same marks.
-- Assumes nothing.
use mathlib.Core.Path.{◌≡◌, sym, ap, ap₂, ◌∙◌}
use mathlib.Core.Bool.{Bool, not, ◌&&◌, ◌||◌, or_comm, and_comm, and_assoc}
use lib.Ieee.{binary64, add, div, neg, lt, le}
use Rattle.ieee754.specs.Value.{zero_float}
use Rattle.sphericalpoint.specs.declared.SphericalPoint.{SphericalPoint}
use Rattle.sphericalpoint.specs.Vector.{coplanar_tolerance, xyz_neg, xyz_dot, xyz_cross, xyz_eq}
use Rattle.sphericalpoint.specs.Point.{one}
use Rattle.sphericalpoint.proofs.VectorValues.{like_value, like_trans, same_refl, same_dot, cross_swap, dot_neg_right}
use Rattle.sphericalpoint.proofs.VectorFloats.{sum-swap, dot_swap, length_by_value, length_neg, dot_size}
use Rattle.arcstring.specs.Leg.{leg}
use Rattle.arcstring_mark.specs.Mark.{inside_leg, mark_on_leg}
use Rattle.arcstring_mark.specs.MarkLaws.{PartsOfReverse, ReverseHolds}
use Rattle.arcstring_mark.proofs.Cases.{short, not_antipodal, coplanar, by_start, by_end, near_side}

pub parts_of_reverse : PartsOfReverse
unfolding xyz_neg
parts_of_reverse p a b =
    let normal = cross_swap a b in
    record {
      ends = dot_swap a b;
      sum = sum-swap a b;
      normal_x = like_value normal.x;
      normal_y = like_value normal.y;
      normal_z = like_value normal.z;
      length = length_by_value normal ∙ length_neg (xyz_cross a b);
      size = dot_size p (xyz_cross b a) p (xyz_cross a b) (like_trans (same_dot (same_refl p) normal) (dot_neg_right p (xyz_cross a b)));
    }

-- the two tests by start and end trade places
swapped : (a d e f : Bool) → a && e && d && f ≡ a && d && e && f
swapped a d e f = ap (λ (b : Bool). b && f) (and_assoc a e d ∙ ap (λ (b : Bool). a && b) (and_comm e d) ∙ sym (and_assoc a d e))

inside_reverse : (p a b : SphericalPoint) → inside_leg p (leg b a) ≡ inside_leg p (leg a b)
unfolding inside_leg
inside_reverse p a b =
    let same = parts_of_reverse p a b in
    let l = leg a b in
    (λ i. not (lt (same.length i) coplanar_tolerance) && lt (add binary64 (neg one) coplanar_tolerance) (same.ends i)
    && lt (div binary64 (same.size i) (same.length i)) coplanar_tolerance && le (same.ends i) (xyz_dot p b) && le (same.ends i) (xyz_dot p a)
    && le zero_float (xyz_dot p (same.sum i)))
    ∙ swapped (not (short l) && not_antipodal l && coplanar p l) (by_start p l) (by_end p l) (near_side p l)

pub reverse_holds : ReverseHolds
unfolding mark_on_leg
reverse_holds p a b = ap₂ ◌||◌ (or_comm (xyz_eq p b) (xyz_eq p a)) (inside_reverse p a b)
