-- A string as it stands in the local lists once it is opened: copied, and of a closed one vertex 0 written once more behind it. Assumes nothing.
use mathlib.Core.Path.{◌≡◌, sym, ap, ap₂, ◌∙◌}
use mathlib.Core.Bool.{Bool, true, false}
use mathlib.Core.List.{List, [], ◌++◌, append-nil}
use Prim.Native.Nat.{ℕ, ◌+◌, ◌*◌, ◌≤◌}
use native.Mathlib.Omega.{arith}
use lib.ListN.{length, take}
use lib.Seq.{length-take-le}
use lib.Ieee.{Float}
use Rattle.arcstring_check.specs.Answer.{pick}
use Rattle.arcstring.specs.declared.inner.vertex.Vertex.{Vertex}
use Rattle.arcstring.specs.Points.{numbered, points}
use Rattle.arcstring.specs.Splice.{splice}
use Rattle.arcstring.proofs.Flat.{length-points, take-points}
use Rattle.arcstring.proofs.Numbered.{length-numbered, numbered-take, numbered-splice}
use Rattle.arcstring.proofs.Splices.{take_past_splice}
use Rattle.arcstring_insert.proofs.Inserted.{vertices_copied}
use Rattle.arcstring_mark_cut.specs.CutAtMarks.{opened}

module _ (v : List Float) (bs : List ℕ) (closed : Bool) (n size : ℕ) (whole : length v ≡ 3 * n) (same : length bs ≡ n) (some : 1 ≤ n)
    (blank work : List Float) (blanks numbers : List ℕ) (copied : work ≡ splice blank 0 (take (3 * n) v)) (carried : numbers ≡ splice blanks 0 (take n bs))
    (wide : length work ≡ 3 * size) (long : length numbers ≡ size) where
  abbrev vs : List Vertex
  vs = numbered (points v) bs

  opened_by : (b : Bool) → closed ≡ b → opened vs closed ≡ vs ++ pick b (take 1 vs) []
  unfolding opened
  opened_by b e = ap (λ (t : Bool). vs ++ pick t (take 1 vs) []) e

  stands : n ≤ size → take n (numbered (points work) numbers) ≡ vs
  stands room = vertices_copied n v blank work bs blanks numbers whole same (omega arith) (omega arith) copied carried

  pub opened_open : n ≤ size → closed ≡ false → take n (numbered (points work) numbers) ≡ opened vs closed
  opened_open room e = stands room ∙ sym (opened_by false e ∙ append-nil vs)

  pub opened_closed : (work' : List Float) (numbers' : List ℕ) → n + 1 ≤ size → closed ≡ true → work' ≡ splice work (3 * n) (take 3 v)
      → numbers' ≡ splice numbers n (take 1 bs) → take (n + 1) (numbered (points work') numbers') ≡ opened vs closed
  opened_closed work' numbers' room e again too =
      let all = numbered (points work) numbers in
      let one : numbered (points (take 3 v)) (take 1 bs) ≡ take 1 vs =
      ap (λ ps. numbered ps (take 1 bs)) (take-points 1 v) ∙ numbered-take 1 (points v) bs in
      let l : length (take 1 vs) ≡ 1 =
      length-take-le 1 vs (omega (arith, length-numbered (points v) bs (same ∙ sym (length-points n v whole)), length-points n v whole)) in
      let full : length all ≡ size = length-numbered (points work) numbers (long ∙ sym (length-points size work wide)) ∙ length-points size work wide in
      let m : n + 1 ≡ n + length (take 1 vs) = omega arith in
      ap (take (n + 1))
      (ap₂ (λ (w : List Float) (cs : List ℕ). numbered (points w) cs) again too
      ∙ numbered-splice work (take 3 v) numbers (take 1 bs) size n 1 wide long (length-take-le 3 v (omega arith)) (length-take-le 1 bs (omega arith)) room
      ∙ ap (splice all n) one)
      ∙ ap (λ (j : ℕ). take j (splice all n (take 1 vs))) m
      ∙ take_past_splice all n (take 1 vs) (omega arith)
      ∙ ap (λ (ws : List Vertex). ws ++ take 1 vs) (stands (omega arith))
      ∙ sym (opened_by true e)
