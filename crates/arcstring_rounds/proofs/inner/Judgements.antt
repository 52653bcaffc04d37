-- How the code judges a vertex: the third point's position, and the three points read at the positions of a list. Assumes nothing.
use mathlib.Core.Path.{◌≡◌, refl, sym, ap, ◌∙◌}
use mathlib.Core.Bool.{Bool}
use mathlib.Core.List.{List, [], ◌∷◌, map}
use Prim.Native.Nat.{ℕ, zero, suc, ◌+◌, ◌-◌, ◌≤◌, ◌<◌}
use native.Mathlib.Omega.{arith}
use lib.ListN.{length, get_or, length-map}
use borrow.Author.Tests.{lt-ltb, le-ltb}
use Rattle.sphericalpoint.specs.declared.SphericalPoint.{SphericalPoint}
use Rattle.sphericalpoint_coplanar.specs.Coplanar.{xyzs_coplanar}
use Rattle.arcstring_check.specs.Answer.{pick}
use Rattle.arcstring.specs.Points.{no_point}
use Rattle.arcstring_rounds.specs.Rounds.{third_position, unnecessary}

pub third_next : (k n : ℕ) → k + 1 < n → k + 1 ≡ third_position k n
unfolding third_position
third_next k n h = sym (ap (λ (b : Bool). pick b (k + 1) (n - k + 1)) (lt-ltb (k + 1) n h))

pub third_of_last : (k n : ℕ) → n ≤ k + 1 → n - k + 1 ≡ third_position k n
unfolding third_position
third_of_last k n h = sym (ap (λ (b : Bool). pick b (k + 1) (n - k + 1)) (le-ltb (k + 1) n h))

module _ {A : Type 0} (pt : A → SphericalPoint) (none : A) where
  point_of_lem : (xs : List A) (k : ℕ) → k < length xs → get_or (map pt xs) k no_point ≡ pt (get_or xs k none)
  point_of_lem [] k h = absurd (omega arith)
  point_of_lem (x ∷ xs) zero h = refl
  point_of_lem (x ∷ xs) (suc k) h = point_of_lem xs k (omega arith)

  pub judged : (xs : List A) (k t : ℕ) (p q r : SphericalPoint) (b : Bool) → 1 ≤ k → k < length xs → t ≡ third_position k (length xs) → t < length xs
      → p ≡ pt (get_or xs (k - 1) none) → q ≡ pt (get_or xs k none) → r ≡ pt (get_or xs t none) → b ≡ xyzs_coplanar p q r → b ≡ unnecessary (map pt xs) k
  unfolding unnecessary
  judged xs k t p q r b low high third below hp hq hr hb =
      let e : get_or (map pt xs) (k - 1) no_point ≡ p = point_of_lem xs (k - 1) (omega arith) ∙ sym hp in
      let f : get_or (map pt xs) k no_point ≡ q = point_of_lem xs k high ∙ sym hq in
      let at : third_position k (length (map pt xs)) ≡ t = ap (third_position k) (length-map xs pt) ∙ sym third in
      let g : get_or (map pt xs) (third_position k (length (map pt xs))) no_point ≡ r =
      ap (λ (i : ℕ). get_or (map pt xs) i no_point) at ∙ point_of_lem xs t below ∙ sym hr in
      hb ∙ sym (λ i. xyzs_coplanar (e i) (f i) (g i))
