-- What a walk does with what its pairs keep: the laws of it, and, since a law's proof is read from here, the lemmas by which writing into two buffers
-- meets them. Assumes nothing.
use mathlib.Core.Path.{◌≡◌, sym, ap, ◌∙◌}
use mathlib.Core.List.{List, [], ◌++◌, map, map-append}
use Prim.Native.Nat.{ℕ, ◌+◌, ◌*◌, ◌≤◌}
use native.Mathlib.Omega.{arith}
use lib.ListN.{length, length-append, length-map}
use lib.Ieee.{Float}
use Rattle.arcstring.specs.Points.{flat}
use Rattle.arcstring.specs.Splice.{splice}
use Rattle.arcstring.proofs.Flat.{length-flat, flat_append}
use Rattle.arcstring.proofs.Splices.{splice-next, splice_nothing, length-splice}
use Rattle.arcstring_tally.specs.Pairs.{Mark, mark_point, mark_byte}

pub record KeepLaws {S : Type 0} (room : S → List Mark → ℕ → Type 0) (written : List Mark → ℕ → S → S → Type 0) : Type 0 where
  -- no kept point changes nothing
  pub nothing : (at : ℕ) (s : S) → written [] at s s
  -- where there is room for some and then others, there is room for the first ones, and once they are there for the others
  pub first : (s : S) (ms ns : List Mark) (at : ℕ) → room s (ms ++ ns) at → room s ms at
  pub others : (s t : S) (ms ns : List Mark) (at : ℕ) → room s (ms ++ ns) at → written ms at s t → room t ns (at + length ms)
  -- some and then others
  pub both : (s t u : S) (ms ns : List Mark) (at : ℕ) → room s (ms ++ ns) at → written ms at s t → written ns (at + length ms) t u → written (ms ++ ns) at s u

-- ---- written into two buffers

-- these kept points fit the buffers from place `at` on
abbrev pub Room : List Mark → ℕ → List Float → List ℕ → Type 0
Room ms at points marks = (3 * (at + length ms) ≤ length points) × (at + length ms ≤ length marks)

-- they are written from place `at` on
abbrev pub Stored : List Mark → ℕ → List Float → List ℕ → List Float → List ℕ → Type 0
Stored ms at points marks points' marks' = (points' ≡ splice points (3 * at) (flat (map mark_point ms))) × (marks' ≡ splice marks at (map mark_byte ms))

pub stored_none : (at : ℕ) (points : List Float) (marks : List ℕ) → Stored [] at points marks points marks
stored_none at points marks = (sym (splice_nothing points (3 * at)), sym (splice_nothing marks at))

length-points : (ms : List Mark) → length (flat (map mark_point ms)) ≡ 3 * length ms
length-points ms = length-flat (map mark_point ms) ∙ ap (λ (n : ℕ). 3 * n) (length-map ms mark_point)

module _ (ms ns : List Mark) (at : ℕ) (points : List Float) (marks : List ℕ) where
  pub room_first : Room (ms ++ ns) at points marks → Room ms at points marks
  room_first r = let e = length-append ms ns in (omega arith, omega arith)

  module _ (points' : List Float) (marks' : List ℕ) where
    pub room_after : Room (ms ++ ns) at points marks → Stored ms at points marks points' marks' → Room ns (at + length ms) points' marks'
    room_after r w =
        let e = length-append ms ns in
        let k = length-points ms in
        let b = length-map ms mark_byte in
        let p = ap length w.0 ∙ length-splice points (3 * at) (flat (map mark_point ms)) (omega arith) in
        let m = ap length w.1 ∙ length-splice marks at (map mark_byte ms) (omega arith) in
        (omega arith, omega arith)

    pub stored_both : (points'' : List Float) (marks'' : List ℕ) → Room (ms ++ ns) at points marks → Stored ms at points marks points' marks'
        → Stored ns (at + length ms) points' marks' points'' marks'' → Stored (ms ++ ns) at points marks points'' marks''
    stored_both points'' marks'' r w x =
        let e = length-append ms ns in
        let k = length-points ms in
        let b = length-map ms mark_byte in (
          x.0
              ∙ ap (λ (l : List Float). splice l (3 * (at + length ms)) (flat (map mark_point ns))) w.0
              ∙ splice-next points (3 * at) (flat (map mark_point ms)) (3 * (at + length ms)) (flat (map mark_point ns)) (omega arith) (omega arith)
              ∙ ap (splice points (3 * at)) (sym (ap flat (map-append mark_point ms ns) ∙ flat_append (map mark_point ms) (map mark_point ns))),
          x.1
              ∙ ap (λ (l : List ℕ). splice l (at + length ms) (map mark_byte ns)) w.1
              ∙ splice-next marks at (map mark_byte ms) (at + length ms) (map mark_byte ns) (omega arith) (omega arith)
              ∙ ap (splice marks at) (sym (map-append mark_byte ms ns)),
        )
