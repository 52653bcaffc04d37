-- A leg with both ends along the other string, sought from the first leg on; and what the tests before it decide. Assumes nothing.
use mathlib.Core.Path.{◌≡◌, refl, sym, ap, ap₂, ◌∙◌}
use mathlib.Core.Bool.{Bool, true, false, ◌&&◌}
use mathlib.Core.List.{List, ◌∷◌}
use Prim.Native.Nat.{ℕ, ◌+◌, ◌-◌, ◌*◌, ◌≤◌, ◌<◌}
use native.Mathlib.Omega.{arith}
use lib.ListN.{length, drop, drop_of_length-le}
use lib.Ieee.{Float}
use Rattle.sphericalpoint.specs.declared.SphericalPoint.{SphericalPoint}
use Rattle.arcstring_check.specs.Answer.{Answer, refused, answered, pick}
use Rattle.arcstring.specs.Points.{ArcString, points, point_at}
use Rattle.arcstring.proofs.Flat.{points-next, length-points}
use Rattle.arcstring_along.specs.OnString.{along_string}
use Rattle.arcstring_against.specs.Against.{apart}
use Rattle.arcstring_equals.specs.Simplified.{or_else, overlap_legs, overlaps_apart}

module _ (other : ArcString) (closed : Bool) (v : List Float) (n : ℕ) (whole : length v ≡ 3 * n) (k : ℕ) where
  -- the legs from the one that ends at vertex k on
  abbrev legs_on : ℕ → Answer Bool
  legs_on i = overlap_legs other closed (drop i (points v))

  -- x whether vertex k - 1 is along the other string, y whether vertex k is
  step : 1 ≤ k → k < n → legs_on (k - 1) ≡ or_else (along_string (point_at v (k - 1)) other && along_string (point_at v k) other) (legs_on k)
  unfolding overlap_legs
  step some h =
      let e : k - 1 + 1 ≡ k = omega arith in
      let two : drop (k - 1) (points v) ≡ point_at v (k - 1) ∷ point_at v k ∷ drop (k + 1) (points v) =
      points-next n v (k - 1) whole (omega arith) ∙ ap (λ (i : ℕ). point_at v (k - 1) ∷ drop i (points v)) e
      ∙ ap (λ (ps : List SphericalPoint). point_at v (k - 1) ∷ ps) (points-next n v k whole h) in
      ap (overlap_legs other closed) two
      ∙ ap (λ (ps : List SphericalPoint). or_else (along_string (point_at v (k - 1)) other && along_string (point_at v k) other) (overlap_legs other closed ps))
      (sym (points-next n v k whole h))

  module _ (p : SphericalPoint) (x : Bool) (some : 1 ≤ k) (h : k < n) (hp : p ≡ point_at v (k - 1)) (hx : x ≡ along_string p other) where
    -- the legs from vertex k on, as the walk counts them next
    next : legs_on (k + 1 - 1) ≡ legs_on k
    next = let e : k + 1 - 1 ≡ k = omega arith in ap legs_on e

    pub start-not-along : x ≡ false → legs_on (k + 1 - 1) ≡ legs_on (k - 1)
    start-not-along e =
        let a : along_string (point_at v (k - 1)) other ≡ false = ap (λ (r : SphericalPoint). along_string r other) (sym hp) ∙ sym hx ∙ e in
        next ∙ sym (step some h ∙ ap (λ (b : Bool). or_else (b && along_string (point_at v k) other) (legs_on k)) a)

    both_known : (q : SphericalPoint) (y : Bool) → q ≡ point_at v k → y ≡ along_string q other → x ≡ true → legs_on (k - 1) ≡ or_else y (legs_on k)
    both_known q y hq hy e =
        let a : along_string (point_at v (k - 1)) other ≡ true = ap (λ (r : SphericalPoint). along_string r other) (sym hp) ∙ sym hx ∙ e in
        let b : along_string (point_at v k) other ≡ y = ap (λ (r : SphericalPoint). along_string r other) (sym hq) ∙ sym hy in
        step some h ∙ ap₂ (λ (s t : Bool). or_else (s && t) (legs_on k)) a b

    pub both_along : (q : SphericalPoint) (y : Bool) → q ≡ point_at v k → y ≡ along_string q other → x ≡ true → y ≡ true → legs_on (k - 1) ≡ answered true
    both_along q y hq hy e f = both_known q y hq hy e ∙ ap (λ (b : Bool). or_else b (legs_on k)) f

    pub end_not-along : (q : SphericalPoint) (y : Bool) → q ≡ point_at v k → y ≡ along_string q other → x ≡ true → y ≡ false
        → legs_on (k + 1 - 1) ≡ legs_on (k - 1)
    end_not-along q y hq hy e f = next ∙ sym (both_known q y hq hy e ∙ ap (λ (b : Bool). or_else b (legs_on k)) f)

  -- no leg but the closing one is left
  legs_end : 1 ≤ n → k ≡ n → legs_on (k - 1) ≡ pick closed (refused 6) (answered false)
  unfolding overlap_legs
  legs_end some e =
      let l : length (points v) ≤ k - 1 + 1 = omega (arith, length-points n v whole) in
      ap (overlap_legs other closed) (points-next n v (k - 1) whole (omega arith) ∙ ap (λ (ps : List SphericalPoint). point_at v (k - 1) ∷ ps)
      (drop_of_length-le (points v) l))

  pub closed_end : 1 ≤ n → k ≡ n → closed ≡ true → legs_on (k - 1) ≡ refused 6
  closed_end some e c = legs_end some e ∙ ap (λ (b : Bool). pick b (refused 6) (answered false)) c

  pub open_end : 1 ≤ n → k ≡ n → closed ≡ false → legs_on (k - 1) ≡ answered false
  open_end some e c = legs_end some e ∙ ap (λ (b : Bool). pick b (refused 6) (answered false)) c

-- of the vertices of a string, as the code has them: w their list
pub of_vertices : (other : ArcString) (closed : Bool) {v w : List Float} → w ≡ v → overlap_legs other closed (points w) ≡ overlap_legs other closed (points v)
of_vertices other closed e = ap (λ (u : List Float). overlap_legs other closed (points u)) e

-- ---- neither within the other: x whether that is so

module _ (a b : ArcString) (x : Bool) (known : x ≡ apart a b) where
  apart_by : (t : Bool) → x ≡ t → pick t (overlap_legs b a.closed a.vertices) (answered false) ≡ overlaps_apart a b
  unfolding overlaps_apart
  apart_by t e = ap (λ (s : Bool). pick s (overlap_legs b a.closed a.vertices) (answered false)) (sym e ∙ known)

  pub not-apart : x ≡ false → answered false ≡ overlaps_apart a b
  not-apart = apart_by false

  pub are_apart : x ≡ true → overlap_legs b a.closed a.vertices ≡ overlaps_apart a b
  are_apart = apart_by true
