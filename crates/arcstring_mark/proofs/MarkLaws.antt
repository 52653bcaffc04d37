-- Which marks a leg holds: those that equal an end, and those inside; legs without an inside hold no other. And some marks, computed. Assumes nothing.
use mathlib.Core.Path.{◌≡◌, refl, sym, ap, ◌∙◌}
use mathlib.Core.Bool.{Bool, true, false, not, ◌&&◌, ◌||◌, and-false, or-true, or-false}
use lib.Ieee.{add, sub, mul, div, neg, lt, eq, le, round}
use Rattle.ieee754.specs.Size.{abs}
use Rattle.ieee754.proofs.Tests.{never}
use Rattle.square_root.specs.Sqrt.{sqrt_of}
use Rattle.sphericalpoint.specs.declared.SphericalPoint.{SphericalPoint}
use Rattle.sphericalpoint.specs.Vector.{equality_tolerance, coplanar_tolerance, xyz_add, xyz_sub, xyz_mul, xyz_abs, xyz_sum, xyz_dot}
use Rattle.sphericalpoint.specs.Vector.{xyz_cross, xyz_length, xyz_eq}
use Rattle.arcstring.specs.Leg.{Leg}
use Rattle.arcstring_mark.specs.Mark.{inside_leg, mark_on_leg}
use Rattle.arcstring_mark.specs.MarkLaws.{equals_end, EndsHeld, OthersBetween, BetweenHeld, ShortHoldsEnds, AntipodalHoldsEnds, KnownMarks}
use Rattle.arcstring_mark.proofs.Cases.{short, not_antipodal, coplanar, by_start, by_end, near_side, end_held, no_end}

pub ends_held : EndsHeld
ends_held p l h = sym (end_held p l h)

-- ---- the six tests

all_six : (s n c d e f : Bool) → not s && n && c && d && e && f ≡ true → (s ≡ false) × (n ≡ true) × (c ≡ true) × (d ≡ true) × (e ≡ true) × (f ≡ true)
all_six true n c d e f h = never h
all_six false false c d e f h = never h
all_six false true false d e f h = never h
all_six false true true false e f h = never h
all_six false true true true false f h = never h
all_six false true true true true f h = (refl, refl, refl, refl, refl, h)

pub others_between : OthersBetween
unfolding inside_leg
others_between p l h held =
    let six = all_six (short l) (not_antipodal l) (coplanar p l) (by_start p l) (by_end p l) (near_side p l) (no_end p l h ∙ held) in
    (record { normal_long = six.0; not-antipodal = six.1 }, record { coplanar = six.2; by-start = six.3; by-end = six.4; near-side = six.5 })

pub between_held : BetweenHeld
unfolding mark_on_leg inside_leg
between_held p l has is =
    (λ i. equals_end p l || (not (has.normal_long i) && has.not-antipodal i && is.coplanar i && is.by-start i && is.by-end i && is.near-side i))
    ∙ or-true (equals_end p l)

-- ---- legs without an inside

ends_alone : (p : SphericalPoint) (l : Leg) → inside_leg p l ≡ false → mark_on_leg p l ≡ equals_end p l
unfolding mark_on_leg
ends_alone p l h = ap (λ (b : Bool). equals_end p l || b) h ∙ or-false (equals_end p l)

pub short_holds_ends : ShortHoldsEnds
unfolding inside_leg
short_holds_ends p l h =
    ends_alone p l (ap (λ (s : Bool). not s && not_antipodal l && coplanar p l && by_start p l && by_end p l && near_side p l) h)

pub antipodal_holds_ends : AntipodalHoldsEnds
unfolding inside_leg
antipodal_holds_ends p l h =
    ends_alone p l
    (ap (λ (n : Bool). n && coplanar p l && by_start p l && by_end p l && near_side p l) (ap (λ (n : Bool). not (short l) && n) h ∙ and-false (not (short l))))

-- ---- some marks, computed

pub known_marks : KnownMarks
unfolding mark_on_leg inside_leg equality_tolerance coplanar_tolerance xyz_add xyz_sub xyz_mul xyz_abs xyz_sum xyz_dot xyz_cross xyz_length xyz_eq sqrt_of
    abs add sub mul div neg lt eq le round
known_marks = record { quarter = refl; long = refl; none = refl }
