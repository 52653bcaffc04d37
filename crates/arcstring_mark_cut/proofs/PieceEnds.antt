-- The ends of a run of points in a flat list, and the test of a point against them. Assumes nothing.
use mathlib.Core.Path.{◌≡◌, sym, ap, ap₂, ◌∙◌}
use mathlib.Core.Bool.{Bool, ◌||◌}
use mathlib.Core.List.{List, map-id}
use Prim.Native.Nat.{ℕ, ◌+◌, ◌-◌, ◌*◌, ◌≤◌, ◌<◌}
use native.Mathlib.Omega.{arith}
use lib.ListN.{length, get_or, take, drop, length-drop}
use lib.Seq.{length-take-le, get_or-take, get_or-drop}
use lib.Ieee.{Float}
use Rattle.sphericalpoint.specs.declared.SphericalPoint.{SphericalPoint}
use Rattle.sphericalpoint.specs.Vector.{xyz_eq}
use Rattle.arcstring.specs.Points.{itself, points, point_at, no_point}
use Rattle.arcstring.proofs.Flat.{count_points, point_at_lem}
use Rattle.arcstring_mark_cut.specs.CutAtMarks.{at_piece_end}

module _ (v : List Float) (at n : ℕ) (some : 1 ≤ n) (room : 3 * (at + n) ≤ length v) where
  abbrev run : List SphericalPoint
  run = take n (drop at (points v))

  run_length_lem : length run ≡ n
  run_length_lem = length-take-le n (drop at (points v)) (rw (length-drop, count_points) (omega arith))

  run_at : (i : ℕ) → i < n → get_or run i no_point ≡ point_at v (at + i)
  run_at i h = get_or-take n (drop at (points v)) i no_point h ∙ get_or-drop at (points v) i no_point ∙ point_at_lem v (at + i) no_point (omega arith)

  -- a and b the first and the last of them, r and s whether p equals these
  pub ends_tested : (p a b : SphericalPoint) (r s : Bool) → a ≡ point_at v at → b ≡ point_at v (at + n - 1) → r ≡ xyz_eq p a → s ≡ xyz_eq p b
      → r || s ≡ at_piece_end itself p run
  unfolding at_piece_end
  ends_tested p a b r s first last one two =
      let e : at + 0 ≡ at = omega arith in
      let f : at + (n - 1) ≡ at + n - 1 = omega arith in
      let start : a ≡ get_or run 0 no_point = first ∙ sym (run_at 0 (omega arith) ∙ ap (point_at v) e) in
      let end : b ≡ get_or run (length run - 1) no_point =
      last ∙ sym (ap (λ (l : ℕ). get_or run (l - 1) no_point) run_length_lem ∙ run_at (n - 1) (omega arith) ∙ ap (point_at v) f) in
      ap₂ ◌||◌ (one ∙ ap (xyz_eq p) start) (two ∙ ap (xyz_eq p) end)
      ∙ ap (λ (qs : List SphericalPoint). xyz_eq p (get_or qs 0 no_point) || xyz_eq p (get_or qs (length qs - 1) no_point)) (sym (map-id run))
