-- The string that vertices make, by whether their ends meet: how many vertices it keeps, whether it is closed, and what is written of it. Assumes nothing.
use mathlib.Core.Path.{◌≡◌, sym, ap, ap₂, ◌∙◌}
use mathlib.Core.Bool.{Bool, true, false}
use mathlib.Core.List.{List, ◌++◌}
use Prim.Native.Nat.{ℕ, ◌+◌, ◌-◌, ◌*◌, ◌≤◌}
use native.Mathlib.Omega.{arith}
use lib.Ieee.{Float}
use lib.ListN.{length, take, drop, length-map}
use lib.Seq.{length-take-le}
use Rattle.sphericalpoint.specs.declared.SphericalPoint.{SphericalPoint}
use Rattle.arcstring.specs.declared.inner.vertex.Vertex.{Vertex}
use Rattle.arcstring.specs.Points.{ArcString, numbered, place_of, places_of, buoys_of, unnumbered, points, flat}
use Rattle.arcstring.specs.Splice.{splice}
use Rattle.arcstring.proofs.Flat.{length-points}
use Rattle.arcstring.proofs.Numbered.{all_places, all_buoys}
use Rattle.arcstring.proofs.Splices.{splice_front}
use Rattle.arcstring_build.specs.Build.{normalized_all, ends_meet, built_string, built_numbered}
use Rattle.arcstring_build.proofs.Builds.{closed_vertices, closed_length, open_vertices, open_length, closed_flag}
use Rattle.arcstring_build.proofs.BuildsWithout.{built_unnumbered, built_buoys_lem}

-- what a piece is: how many vertices, whether it is closed, and the lists that they are written in
abbrev pub Built : List Vertex → ℕ → List Float → List ℕ → ℕ → Bool → List Float → List ℕ → Type 0
Built vs n old olds count closed out outs =
    ((count ≡ length (built_numbered vs).vertices) × (closed ≡ (built_numbered vs).closed) × (1 ≤ count) × (count ≤ n))
    × ((out ≡ flat (places_of (built_numbered vs).vertices) ++ drop (3 * count) old) × (outs ≡ buoys_of (built_numbered vs).vertices ++ drop count olds))

module _ (v : List Float) (bs : List ℕ) (old out : List Float) (olds outs : List ℕ) (whole : length v ≡ 3 * length bs) (two : 2 ≤ length bs) where
  abbrev Piece : ℕ → Bool → Type 0
  Piece count closed = Built (numbered (points v) bs) (length bs) old olds count closed out outs

  -- from the string that the points make, and the first of the numbers
  by_points : (count : ℕ) (closed : Bool) → length (built_string (points v)).vertices ≡ count → closed ≡ (built_string (points v)).closed → 1 ≤ count
      → count ≤ length bs → out ≡ flat (built_string (points v)).vertices ++ drop (3 * count) old → outs ≡ splice olds 0 (take count bs) → Piece count closed
  by_points count closed c f some most e g =
      let s = built_numbered (numbered (points v) bs) in
      let same : length bs ≡ length (points v) = sym (length-points (length bs) v whole) in
      let places = all_places (points v) bs same in
      let all : unnumbered s ≡ built_string (points v) = built_unnumbered (numbered (points v) bs) ∙ ap built_string places in
      let vertices : places_of s.vertices ≡ (built_string (points v)).vertices = ap (λ (a : ArcString). a.vertices) all in
      let buoys : buoys_of s.vertices ≡ take count bs =
      built_buoys_lem (numbered (points v) bs)
      ∙ ap₂ take (ap (λ (ps : List SphericalPoint). length (built_string ps).vertices) places ∙ c) (all_buoys (points v) bs same) in (
        (
          sym (ap length vertices ∙ c) ∙ length-map s.vertices place_of,
          f ∙ sym (ap (λ (a : ArcString). a.closed) all),
          some,
          most,
        ),
        (
          e ∙ ap (λ (ps : List SphericalPoint). flat ps ++ drop (3 * count) old) (sym vertices),
          g ∙ splice_front olds count (take count bs) (length-take-le count bs most) ∙ ap (λ (ns : List ℕ). ns ++ drop count olds) (sym buoys),
        ),
      )

  pub closed_piece : ends_meet (normalized_all (points v)) ≡ true
      → out ≡ flat (normalized_all (normalized_all (points (take (3 * (length bs - 1)) v)))) ++ drop (3 * (length bs - 1)) old
      → outs ≡ splice olds 0 (take (length bs - 1) bs) → Piece (length bs - 1) true
  closed_piece meet e g =
      let n = length bs in
      by_points (n - 1) true (closed_length v n whole meet) (sym meet ∙ closed_flag (points v)) (omega arith) (omega arith)
      (e ∙ ap (λ (ps : List SphericalPoint). flat ps ++ drop (3 * (n - 1)) old) (closed_vertices v n whole meet)) g

  pub open_piece : ends_meet (normalized_all (points v)) ≡ false → out ≡ flat (normalized_all (points (take (3 * length bs) v))) ++ drop (3 * length bs) old
      → outs ≡ splice olds 0 (take (length bs) bs) → Piece (length bs) false
  open_piece apart e g =
      let n = length bs in
      by_points n false (open_length v n whole apart) (sym apart ∙ closed_flag (points v)) (omega arith) (omega arith)
      (e ∙ ap (λ (ps : List SphericalPoint). flat ps ++ drop (3 * n) old) (open_vertices v n whole apart)) g
