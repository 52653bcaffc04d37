-- A point far off a plane fails the test whatever the root: where a square is at most 16 its root is at most 4, and 1e-7 or more divided by that is 2e-8 or
-- more. For all floats, NaN and the infinities included. Assumes nothing.
use mathlib.Core.Path.{◌≡◌, refl, sym, ap, ◌∙◌, subst}
use mathlib.Core.Bool.{Bool, true, false, ◌&&◌, cond}
use Prim.Native.Nat.{ℕ, zero, suc, ◌+◌, ◌*◌, ◌^◌, ◌≤◌, ◌<◌}
use native.Mathlib.Nat.{le_of_lt, lt_of_not-le, le_of_mul-le-mul_right, mul-le-mul, mul-le-mul_right, mul-pos, zero-lt-suc}
use native.Mathlib.Decide.{dec_le}
use native.Mathlib.Omega.{arith}
use lib.IntN.{ℤ, pos, negsuc}
use lib.Dec.{T, eqb, eqb→eq, lt→ltb, lit≤}
use lib.Pow.{pow_pos}
use lib.Ieee.{Float, nan, inf, fin, binary64, of_bits, up, down, round, div, lt, le, fits}
use lib.Ieee.Fits.{up_pos, down_pos, add-fits}
use lib.Ieee.Order.{round_mono}
use lib.Ieee.Positive.{positive, above, above_of_le, le→cross}
use borrow.Author.Tests.{le-ltb}
use Rattle.ieee754.proofs.Tests.{never, and_first, and_second}
use Rattle.ieee754.specs.Size.{abs}
use Rattle.ieee754.specs.Units.{not_negative}
use Rattle.ieee754.specs.Value.{value}
use Rattle.ieee754.proofs.Units.{exact_units}
use Rattle.ieee754.proofs.Comparisons.{lt-zero_l, le-value}
use Rattle.sphericalpoint.specs.declared.SphericalPoint.{SphericalPoint}
use Rattle.sphericalpoint.specs.Vector.{coplanar_tolerance, xyz_sum, xyz_dot, xyz_length}
use Rattle.square_root.specs.Sqrt.{sqrt_of}
use Rattle.square_root.specs.NearestRoot.{in_units, NearestRoot}
use Rattle.square_root.proofs.NearestLaw.{sqrt_nearest}

-- ---- the numbers of the test

-- 1e-7
abbrev far : Float
far = fin false 0x35afe535795e9 (negsuc 72)

far_bits : of_bits binary64 0x3e7a_d7f2_9abc_af48 ≡ far
unfolding of_bits
far_bits = refl

abbrev sixteen : Float
sixteen = fin false 1 (pos 4)

sixteen_bits : of_bits binary64 0x4030_0000_0000_0000 ≡ sixteen
unfolding of_bits
sixteen_bits = refl

abbrev four : Float
four = fin false 1 (pos 2)

abbrev tolerance : Float
tolerance = fin false 0xabcc77118461d (negsuc 76)

tolerance_is : coplanar_tolerance ≡ tolerance
unfolding coplanar_tolerance round
tolerance_is = refl

-- ---- the root of what is at most 16 is at most 4: with a longer one the point halfway to 4 would be above the square's root

too_long : (r s u : ℕ) → s ≤ 16 * u → 4 * u ≤ r → (r + 4 * u) * (r + 4 * u) < 4 * (s * u) → ⊥
too_long r s u h l k = omega (arith, mul-le-mul_right u h, mul-le-mul l l, mul-le-mul_right u l)

four_held : T (fits binary64 four)
unfolding fits
four_held = tt

root_short : (x r : Float) → NearestRoot x r → in_units x ≤ 16 * 2 ^ 1074 → in_units r ≤ 4 * 2 ^ 1074
root_short x r h l = go (dec_le (in_units r) (4 * 2 ^ 1074))
  where
    go : Dec (in_units r ≤ 4 * 2 ^ 1074) → in_units r ≤ 4 * 2 ^ 1074
    go (yes k) = k
    go (no k) = absurd (too_long (in_units r) (in_units x) (2 ^ 1074) l (le_of_lt (lt_of_not-le k)) (h.smaller four four_held tt (lt_of_not-le k)))

-- n / d by its number w of units of 1 / u, and back
in_units_lem : (n d u w c : ℕ) → 0 < d → n * u ≡ w * d → n ≤ c * d → w ≤ c * u
in_units_lem n d u w c D e h = le_of_mul-le-mul_right {m = w} {n = c * u} (omega (arith, e, mul-le-mul_right u h)) D

of_units : (n d u w c : ℕ) → 0 < u → n * u ≡ w * d → w ≤ c * u → n ≤ c * d
of_units n d u w c U e h = le_of_mul-le-mul_right {m = n} {n = c * d} (omega (arith, e, mul-le-mul_right d h)) U

-- ---- the quotient

not_below : (t z : Float) → T (positive t) → T (le t z) → T (above z) → lt z t ≡ false
unfolding lt
not_below nan z p h a = absurd p
not_below (inf s) z p h a = absurd p
not_below (fin true m e) z p h a = absurd p
not_below (fin false m e) nan p h a = absurd a
not_below (fin false m e) (inf true) p h a = absurd a
not_below (fin false m e) (inf false) p h a = refl
not_below (fin false m e) (fin true n d) p h a = absurd a
not_below (fin false m e) (fin false n d) p h a = le-ltb _ _ (le→cross (fin false m e) (fin false n d) p a h)

-- x / e is at least c / k, which is at least 8 / t, and l / d is at most 4
at_least_eighth : (x e c k t : ℕ) → 0 < k → c * e ≤ x * k → 8 * k ≤ c * t → 8 * e ≤ x * t
at_least_eighth x e c k t K h g = le_of_mul-le-mul_right {m = 8 * e} {n = x * t} (omega (arith, mul-le-mul_right t h, mul-le-mul_right e g)) K

enough : (x e l d t : ℕ) → 8 * e ≤ x * t → l ≤ 4 * d → 2 * (l * e) ≤ x * d * t
enough x e l d t h k = omega (arith, mul-le-mul_right d h, mul-le-mul_right e k)

not-zero : (n : ℕ) (b : Bool) (x y : Float) → (T b → suc n ≡ 0) → cond b x y ≡ y
not-zero n true x y h = let z : suc n ≡ 0 = h tt in absurd (omega arith)
not-zero n false x y h = refl

quotient_far : (m : ℕ) (e : ℤ) (n : ℕ) (d : ℤ) → T (le far (fin false m e)) → suc n * up d ≤ 4 * down d
    → lt (div binary64 (fin false m e) (fin false (suc n) d)) coplanar_tolerance ≡ false
unfolding div coplanar_tolerance
quotient_far m e n d h k =
    let q = round binary64 false (m * up e * down d) (suc n * up d * down e) in
    let is : div binary64 (fin false m e) (fin false (suc n) d) ≡ q = not-zero n (eqb (suc n) 0) _ q (eqb→eq (suc n) 0) in
    let x = le→cross far (fin false m e) tt (above_of_le far (fin false m e) tt h) h in
    let least = at_least_eighth (m * up e) (down e) (0x35afe535795e9 * 1) (2 ^ 73) (10 ^ 8) (pow_pos 73) x (lit≤ tt) in
    let over : T (le coplanar_tolerance q) = round_mono binary64 2 (10 ^ 8) (m * up e * down d) (suc n * up d * down e) (lit≤ tt)
    (mul-pos (mul-pos (zero-lt-suc n) (up_pos d)) (down_pos e)) (enough (m * up e) (down e) (suc n * up d) (down d) (10 ^ 8) least k) in
    let tol : T (positive coplanar_tolerance) = subst (λ (t : Float). T (positive t)) (sym tolerance_is) tt in
    ap (λ (z : Float). lt z coplanar_tolerance) is ∙ not_below coplanar_tolerance q tol over (above_of_le coplanar_tolerance q tol over)

by_nan : (x : Float) → lt (div binary64 x nan) coplanar_tolerance ≡ false
unfolding div lt
by_nan nan = refl
by_nan (inf s) = refl
by_nan (fin s m e) = refl

-- a zero has no plane: it is below the tolerance
zero_below : (s : Bool) (e : ℤ) → lt (fin s zero e) coplanar_tolerance ≡ true
zero_below s e = ap (lt (fin s zero e)) tolerance_is ∙ lt-zero_l s e false 0xabcc77118461d (negsuc 76)

-- ---- a square s and a size x, of any floats that the format holds

by_root : (y l : Float) → T (fits binary64 l) → T (not_negative l) → in_units l ≤ 4 * 2 ^ 1074 → le far (abs y) ≡ true → lt l coplanar_tolerance ≡ false
    → lt (div binary64 (abs y) l) coplanar_tolerance ≡ false
by_root y nan F p u h g = absurd p
by_root y (inf s) F p u h g = absurd p
by_root y (fin true n d) F p u h g = absurd p
by_root y (fin false zero d) F p u h g = never (sym g ∙ zero_below false d)
by_root nan (fin false (suc n) d) F p u h g = unfold abs le in never h
by_root (inf s) (fin false (suc n) d) F p u h g = unfold abs div in ap (lt (inf false)) tolerance_is ∙ unfold lt in refl
by_root (fin s m e) (fin false (suc n) d) F p u h g =
    unfold abs in quotient_far m e n d (subst T (sym h) tt)
    (of_units (suc n * up d) (down d) (2 ^ 1074) (in_units (fin false (suc n) d)) 4 (pow_pos 1074) (exact_units binary64 false (suc n) d F) u)

far_off : (y s : Float) → T (fits binary64 s) → le far (abs y) ≡ true → le s sixteen ≡ true → lt (sqrt_of s) coplanar_tolerance ≡ false
    → lt (div binary64 (abs y) (sqrt_of s)) coplanar_tolerance ≡ false
far_off y nan F h k g = unfold le in never k
far_off y (inf true) F h k g = unfold sqrt_of in by_nan (abs y)
far_off y (inf false) F h k g = unfold le in never k
far_off y (fin s zero e) F h k g = unfold sqrt_of in never (sym g ∙ zero_below s e)
far_off y (fin true (suc m) e) F h k g = unfold sqrt_of in by_nan (abs y)
far_off y (fin false (suc m) e) F h k g =
    let x = fin false (suc m) e in
    let root = sqrt_nearest x F tt in
    let square = le→cross x sixteen (lt→ltb 0 (suc m) (zero-lt-suc m)) tt (subst T (sym k) tt) in
    by_root y (sqrt_of x) root.held root.from_zero
    (root_short x (sqrt_of x) root
    (in_units_lem (suc m * up e) (down e) (2 ^ 1074) (in_units x) 16 (down_pos e) (exact_units binary64 false (suc m) e F) (omega (arith, square))))
    h g

-- ---- a point and a normal, by the tests as the code has them: m has the value of the size

pub not_in_plane : (c n : SphericalPoint) (m : Float) → value m ≡ value (abs (xyz_dot c n))
    → le (of_bits binary64 0x3e7a_d7f2_9abc_af48) m && le (xyz_dot n n) (of_bits binary64 0x4030_0000_0000_0000) ≡ true
    → lt (xyz_length n) coplanar_tolerance ≡ false → lt (div binary64 (abs (xyz_dot c n)) (xyz_length n)) coplanar_tolerance ≡ false
unfolding xyz_length xyz_dot xyz_sum
not_in_plane c n m e h g =
    let large = le-value far far (abs (xyz_dot c n)) m refl (sym e) ∙ ap (λ (t : Float). le t m) (sym far_bits) ∙ and_first _ _ h in
    far_off (xyz_dot c n) (xyz_dot n n) (add-fits binary64 _ _) large
    (ap (le (xyz_dot n n)) (sym sixteen_bits) ∙ and_second (le (of_bits binary64 0x3e7a_d7f2_9abc_af48) m) _ h) g
