-- The whole root of a number: `isqrt n` is one, no other number is, and it lies within the roots of any bounds of n. Assumes nothing.
use mathlib.Core.Path.{◌≡◌, refl}
use mathlib.Core.Bool.{Bool, true, false, not, cond}
use Prim.Native.Nat.{ℕ, zero, suc, ◌+◌, ◌*◌, ◌/◌, ◌^◌, ◌≤◌, ◌<◌}
use native.Mathlib.Nat.{le_of_eq, lt_of_lt_of_le, lt_of_le_of_lt, le_antisymm, pow-succ'}
use native.Mathlib.Omega.{arith}
use lib.Dec.{T, leb, leb→le, nleb→lt}
use lib.Ieee.{size}
use lib.Ieee.Digits.{size-lt}
use Rattle.square_root.specs.Sqrt.{one_more, isqrt_in, isqrt}
use Rattle.square_root.specs.RootStep.{WholeRoot}
use Rattle.square_root.specs.RootLaws.{WholeRootFloor, WholeRootUnique}
use Rattle.square_root.proofs.Squares.{lt_of_square_lt}

-- ---- bounds

pub root_ge : {n r : ℕ} (lo : ℕ) → WholeRoot n r → lo * lo ≤ n → lo ≤ r
root_ge {n} {r} lo h l =
    let g : lo < r + 1 = lt_of_square_lt lo (r + 1) (lt_of_le_of_lt l h.next_above) in
    omega arith

pub root_lt : {n r : ℕ} (hi : ℕ) → WholeRoot n r → n < hi * hi → r < hi
root_lt {n} {r} hi h l = lt_of_square_lt r hi (lt_of_le_of_lt h.square_le l)

pub whole_root_unique : {n r t : ℕ} → WholeRoot n r → WholeRoot n t → r ≡ t
whole_root_unique {n} {r} {t} h k = le_antisymm (root_ge r k h.square_le) (root_ge t h k.square_le)

-- ---- one digit more

quarter_low : (n a : ℕ) → WholeRoot (n / 4) a → 2 * a * (2 * a) ≤ n
quarter_low n a h = omega arith

quarter_high : (n a : ℕ) → WholeRoot (n / 4) a → n < (2 * a + 1 + 1) * (2 * a + 1 + 1)
quarter_high n a h = omega arith

one_more_root : (n r : ℕ) → r * r ≤ n → n < (r + 1 + 1) * (r + 1 + 1) → WholeRoot n (one_more n r)
one_more_root n r lo hi = go (leb ((r + 1) * (r + 1)) n) (leb→le ((r + 1) * (r + 1)) n) (nleb→lt ((r + 1) * (r + 1)) n)
  where
    go : (b : Bool) → (T b → (r + 1) * (r + 1) ≤ n) → (T (not b) → n < (r + 1) * (r + 1)) → WholeRoot n (cond b (r + 1) r)
    go true y x = record { square_le = y tt; next_above = hi }
    go false y x = record { square_le = lo; next_above = x tt }

quarter-lt : (n d : ℕ) → n < 4 ^ suc d → n / 4 < 4 ^ d
quarter-lt n d h = omega (arith, pow-succ' 4 d)

isqrt_in_floor : (d n : ℕ) → n < 4 ^ d → WholeRoot n (isqrt_in d n)
unfolding isqrt_in
isqrt_in_floor zero n h = omega arith
isqrt_in_floor (suc d) n h =
    let i = isqrt_in_floor d (n / 4) (quarter-lt n d h) in
    one_more_root n (2 * isqrt_in d (n / 4)) (quarter_low n (isqrt_in d (n / 4)) i) (quarter_high n (isqrt_in d (n / 4)) i)

-- ---- the two laws

two_le_four : (k : ℕ) → 2 ^ k ≤ 4 ^ k
two_le_four zero = le_of_eq refl
two_le_four (suc k) = omega (arith, two_le_four k, pow-succ' 2 k, pow-succ' 4 k)

pub isqrt_floor : WholeRootFloor
unfolding isqrt
isqrt_floor n = isqrt_in_floor (size n) n (lt_of_lt_of_le (size-lt n) (two_le_four (size n)))

pub isqrt_unique : WholeRootUnique
isqrt_unique n r h = whole_root_unique (isqrt_floor n) h
