-- The square root of a float, rounded to the nearest `f64`, by comparing squares of whole numbers. Definitions only.
-- That the result is the nearest float and the only one is said without any of this in NearestRoot.antt and claimed in RootLaws.antt.
use Prim.Native.Nat.{ℕ, zero, suc, ◌+◌, ◌-◌, ◌*◌, ◌/◌, ◌^◌, compare}
use Rattle.std.specs.Prelude.{true, false, cond, leb, Float}
use Rattle.std.specs.Float.{nan, inf, fin, binary64}
use Rattle.std.specs.Float.Ieee.{up, down, size, nearest, units}

-- r, or r + 1 where its square is still at most n
abbrev pub one_more : ℕ → ℕ → ℕ
one_more n r = cond (leb ((r + 1) * (r + 1)) n) (r + 1) r

-- the whole root of an n below 4 ^ d, one binary digit for each d
unfoldable pub isqrt_in : ℕ → ℕ → ℕ
isqrt_in zero n = 0
isqrt_in (suc d) n = one_more n (2 * isqrt_in d (n / 4))

-- the whole root of n: the one r with r * r ≤ n < (r + 1) * (r + 1)
unfoldable pub isqrt : ℕ → ℕ
unfolding isqrt_in
isqrt n = isqrt_in (size n) n

-- √n units of 2 ^ -1074, the smallest `f64`, as the nearest `f64`. Of the whole root the 53 leading digits, q, are kept and k are dropped.
-- So √n lies from q * 2 ^ k up to (q + 1) * 2 ^ k, and goes to the nearer of the two: n is compared with the square of the point halfway, h / 2.
unfoldable pub root_units : ℕ → Float
unfolding isqrt size units
root_units n =
    let k = size (isqrt n) - 53 in
    let q = isqrt n / 2 ^ k in
    let h = (2 * q + 1) * 2 ^ k in
    units binary64 false (nearest q (compare (4 * n) (h * h))) k

-- √x. A zero is its own root, and so is the infinity above zero; a NaN and a number below zero have a NaN.
-- In units of 2 ^ -2148 any other x is a whole number n, and √x is √n units of 2 ^ -1074.
unfoldable pub sqrt_of : Float → Float
unfolding root_units
sqrt_of nan = nan
sqrt_of (inf true) = nan
sqrt_of (inf false) = inf false
sqrt_of (fin s zero e) = fin s zero e
sqrt_of (fin true (suc m) e) = nan
sqrt_of (fin false (suc m) e) = root_units (suc m * up e * 2 ^ 2148 / down e)
