-- What one pair writes into the two buffers, its kept point and its mark, and the room at their start. Assumes nothing.
use mathlib.Core.Path.{◌≡◌, refl, sym, ap, ◌∙◌}
use mathlib.Core.List.{List, [], ◌∷◌, map, filter_map}
use Prim.Native.Nat.{ℕ, ◌+◌, ◌*◌, ◌≤◌}
use native.Mathlib.Omega.{arith}
use lib.ListN.{length}
use lib.Ieee.{Float}
use Rattle.sphericalpoint.specs.declared.SphericalPoint.{SphericalPoint}
use Rattle.arcstring.specs.Points.{flat}
use Rattle.arcstring.specs.Splice.{splice}
use Rattle.arcstring.proofs.Splices.{splice_nothing}
use Rattle.arcstring_pair.specs.declared.pair.Pair.{Pair}
use Rattle.arcstring_pair.specs.declared.pair.Pair.TheVariants.{Clean, End, Grazing, Apart}
use Rattle.arcstring_pair.specs.declared.pair.Outcome.{Outcome}
use Rattle.arcstring_pair.specs.declared.pair.Outcome.TheVariants.{Kept, Dropped, None}
use Rattle.arcstring_tally.specs.Pairs.{Mark, kept_marks, mark_point, mark_byte}
use Rattle.arcstring_tally.specs.Keep.{Room, Stored}

-- ---- one pair

module _ (p : Pair) where
  pub keeps_clean : (x : SphericalPoint) → p ≡ Clean x → kept_marks (p ∷ []) ≡ record { point = x; byte = 1 } ∷ []
  unfolding kept_marks filter_map
  keeps_clean x h = rw h

  pub keeps_kept : (o : Outcome) (x : SphericalPoint) → p ≡ Grazing o → o ≡ Kept x → kept_marks (p ∷ []) ≡ record { point = x; byte = 0 } ∷ []
  unfolding kept_marks filter_map
  keeps_kept o x h k = rw (h, k)

  pub dropped_keeps_none : (o : Outcome) (x : SphericalPoint) → p ≡ Grazing o → o ≡ Dropped x → kept_marks (p ∷ []) ≡ []
  unfolding kept_marks filter_map
  dropped_keeps_none o x h k = rw (h, k)

  pub no_point_keeps_none : (o : Outcome) → p ≡ Grazing o → o ≡ None → kept_marks (p ∷ []) ≡ []
  unfolding kept_marks filter_map
  no_point_keeps_none o h k = rw (h, k)

  pub end_keeps_none : (x : SphericalPoint) → p ≡ End x → kept_marks (p ∷ []) ≡ []
  unfolding kept_marks filter_map
  end_keeps_none x h = rw h

  pub apart_keeps_none : p ≡ Apart → kept_marks (p ∷ []) ≡ []
  unfolding kept_marks filter_map
  apart_keeps_none h = rw h

-- from the start of the buffers
pub room_at_start : (ps : List Pair) (points : List Float) (marks : List ℕ) → (3 * length (kept_marks ps) ≤ length points)
    × (length (kept_marks ps) ≤ length marks) → Room (kept_marks ps) 0 points marks
room_at_start ps points marks r = (omega arith, omega arith)

module _ (ps : List Pair) (at : ℕ) (points : List Float) (marks : List ℕ) where
  pub room_for-one : (m : Mark) → kept_marks ps ≡ m ∷ [] → Room (kept_marks ps) at points marks → (3 * at + 3 ≤ length points) × (at + 1 ≤ length marks)
  room_for-one m h r = let e : length (kept_marks ps) ≡ 1 = ap length h in (omega arith, omega arith)

  pub one_written : (x : SphericalPoint) (byte : ℕ) (points' : List Float) (marks' : List ℕ) → kept_marks ps ≡ record { point = x; byte = byte } ∷ []
      → (points' ≡ splice points (3 * at) (x.x ∷ x.y ∷ x.z ∷ [])) × (marks' ≡ splice marks at (byte ∷ []))
      → Stored (kept_marks ps) at points marks points' marks'
  one_written x byte points' marks' h w = rw h w

  pub none_written : kept_marks ps ≡ [] → Stored (kept_marks ps) at points marks points marks
  none_written h = rw h (sym (splice_nothing points (3 * at)), sym (splice_nothing marks at))

pub nothing_of : (ms : List Mark) → length ms ≡ 0 → ms ≡ []
nothing_of [] h = refl
nothing_of (m ∷ ms) h = absurd (omega arith)

-- ---- the same pairs by another name

module _ (ps qs : List Pair) (same : ps ≡ qs) (points : List Float) (marks : List ℕ) where
  pub room_of : (3 * length (kept_marks qs) ≤ length points) × (length (kept_marks qs) ≤ length marks)
      → (3 * length (kept_marks ps) ≤ length points) × (length (kept_marks ps) ≤ length marks)
  room_of r = let e = ap (λ (l : List Pair). length (kept_marks l)) same in (omega arith, omega arith)

  pub written_of : (points' : List Float) (marks' : List ℕ)
      → (points' ≡ splice points 0 (flat (map mark_point (kept_marks ps)))) × (marks' ≡ splice marks 0 (map mark_byte (kept_marks ps)))
      → (points' ≡ splice points 0 (flat (map mark_point (kept_marks qs)))) × (marks' ≡ splice marks 0 (map mark_byte (kept_marks qs)))
  written_of points' marks' w = (
    w.0 ∙ ap (λ (l : List Pair). splice points 0 (flat (map mark_point (kept_marks l)))) same,
    w.1
        ∙ ap (λ (l : List Pair). splice marks 0 (map mark_byte (kept_marks l))) same,
  )
