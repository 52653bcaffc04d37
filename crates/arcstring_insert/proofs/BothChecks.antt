-- What the checks of a string and of points tell where both accept. Assumes nothing.
use mathlib.Core.Path.{◌≡◌}
use mathlib.Core.List.{List}
use Prim.Native.Nat.{ℕ, ◌*◌, ◌/◌, ◌≤◌}
use native.Mathlib.Omega.{arith}
use lib.ListN.{length}
use lib.Ieee.{Float}
use Rattle.arcstring_check.specs.Check.{string_check, points_check}
use Rattle.arcstring_check.proofs.Checks.{WholeList, stored_whole, stored_some, string-stored, as_many_buoys, points_whole, points_buoys}

-- Accepted vertices are whole triples, one at least and at most 1,024, and there are as many numbers; accepted points are whole triples, with as many numbers.
pub record Both (v : List Float) (bs : List ℕ) (extra : List Float) (es : List ℕ) : Type 0 where
  pub string : string_check v bs ≡ 0
  pub vertices : WholeList v
  pub some : 1 ≤ length v / 3
  pub numbers : length bs ≡ length v / 3
  pub points : length extra ≡ 3 * length es

pub both_checked : (v : List Float) (bs : List ℕ) (extra : List Float) (es : List ℕ) → string_check v bs ≡ 0 → points_check extra es ≡ 0 → Both v bs extra es
both_checked v bs extra es s p = record {
  string = s;
  vertices = stored_whole v (string-stored v bs s);
  some = stored_some v (string-stored v bs s);
  numbers = as_many_buoys v bs s;
  points = omega (arith, (points_whole extra es p).triples, points_buoys extra es p);
}
