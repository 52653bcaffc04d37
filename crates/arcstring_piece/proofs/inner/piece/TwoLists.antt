-- Vertices in two lists, floats in one and numbers in another: the first of them, those after, and two runs written one after the other. Assumes nothing.
use mathlib.Core.Path.{◌≡◌, sym, ap, ap₂, ◌∙◌}
use mathlib.Core.List.{List, ◌++◌, append_assoc}
use Prim.Native.Nat.{ℕ, ◌+◌, ◌-◌, ◌*◌}
use native.Mathlib.Omega.{arith}
use lib.Ieee.{Float}
use lib.ListN.{length, take, drop, length-append}
use lib.Seq.{take_at}
use Rattle.sphericalpoint.specs.declared.SphericalPoint.{SphericalPoint}
use Rattle.arcstring.specs.declared.inner.vertex.Vertex.{Vertex}
use Rattle.arcstring.specs.Points.{numbered, points}
use Rattle.arcstring.specs.Splice.{splice}
use Rattle.arcstring.proofs.Flat.{points-append, take-points, drop-points, length-points}
use Rattle.arcstring.proofs.Numbered.{numbered-append, numbered-take, numbered-drop, length-numbered}
use Rattle.arcstring.proofs.Splices.{spliced_next, splice-start}

-- the first k
pub first_numbered : (k : ℕ) (v : List Float) (bs : List ℕ) → numbered (points (take (3 * k) v)) (take k bs) ≡ take k (numbered (points v) bs)
first_numbered k v bs = ap (λ (ps : List SphericalPoint). numbered ps (take k bs)) (take-points k v) ∙ numbered-take k (points v) bs

-- those from k on
pub past_numbered : (k : ℕ) (v : List Float) (bs : List ℕ) → numbered (points (drop (3 * k) v)) (drop k bs) ≡ drop k (numbered (points v) bs)
past_numbered k v bs = ap (λ (ps : List SphericalPoint). numbered ps (drop k bs)) (drop-points k v) ∙ numbered-drop k (points v) bs

-- m whole ones: how many, and with others after them
module _ (m : ℕ) (v : List Float) (bs : List ℕ) (whole : length v ≡ 3 * m) (same : length bs ≡ m) where
  pub count_numbered : length (numbered (points v) bs) ≡ m
  count_numbered = length-numbered (points v) bs (same ∙ sym (length-points m v whole)) ∙ length-points m v whole

  more_numbered : (w : List Float) (cs : List ℕ) → numbered (points (v ++ w)) (bs ++ cs) ≡ numbered (points v) bs ++ numbered (points w) cs
  more_numbered w cs =
      ap (λ (ps : List SphericalPoint). numbered ps (bs ++ cs)) (points-append m v w whole)
      ∙ numbered-append (points v) (points w) bs cs (length-points m v whole ∙ sym same)

-- two parts of a list, of floats or of numbers
module _ {A : Type 0} where
  -- written one after the other
  in-turn : (old mid last xs ys : List A) (next : ℕ) → mid ≡ splice old 0 xs → last ≡ splice mid next ys → length xs ≡ next
      → last ≡ xs ++ (ys ++ drop (length (xs ++ ys)) old)
  in-turn old mid last xs ys next first second l =
      spliced_next old mid last 0 xs next ys first second (omega arith) (omega arith)
      ∙ splice-start old (xs ++ ys)
      ∙ append_assoc xs ys (drop (length (xs ++ ys)) old)

  -- the second into the part of the list from where the first ends
  pub into_part : (mid part after past rest xs ys : List A) (m : ℕ) → length xs ≡ m → mid ≡ xs ++ after → part ≡ ys ++ past
      → take m mid ++ (part ++ rest) ≡ xs ++ (ys ++ (past ++ rest))
  into_part mid part after past rest xs ys m l first second =
      ap₂ (λ (a b : List A). a ++ (b ++ rest)) (ap (take m) first ∙ take_at xs after m l) second ∙ ap (λ (a : List A). xs ++ a) (append_assoc ys past rest)

-- two runs of vertices, m and n of them
module _ (v w : List Float) (bs cs : List ℕ) (m n : ℕ) (lv : length v ≡ 3 * m) (lb : length bs ≡ m) (lw : length w ≡ 3 * n) (lc : length cs ≡ n) where
  -- at the start of both lists
  pub two_runs : (after out : List Float) (afters outs : List ℕ) → out ≡ v ++ (w ++ after) → outs ≡ bs ++ (cs ++ afters)
      → take (m + n) (numbered (points out) outs) ≡ numbered (points v) bs ++ numbered (points w) cs
  two_runs after out afters outs e f =
      let xs = numbered (points v) bs in
      let ys = numbered (points w) cs in
      let zs = numbered (points after) afters in
      let l : length (xs ++ ys) ≡ m + n = length-append xs ys ∙ ap₂ ◌+◌ (count_numbered m v bs lv lb) (count_numbered n w cs lw lc) in
      let all : numbered (points out) outs ≡ (xs ++ ys) ++ zs =
      ap₂ (λ (a : List Float) (b : List ℕ). numbered (points a) b) e f
      ∙ more_numbered m v bs lv lb (w ++ after) (cs ++ afters)
      ∙ ap (λ (us : List Vertex). xs ++ us) (more_numbered n w cs lw lc after afters)
      ∙ sym (append_assoc xs ys zs) in
      ap (take (m + n)) all ∙ take_at (xs ++ ys) zs (m + n) l

  -- written there in turn
  pub written : (old mid last : List Float) (olds mids lasts : List ℕ) → mid ≡ splice old 0 v → last ≡ splice mid (3 * m) w → mids ≡ splice olds 0 bs
      → lasts ≡ splice mids m cs → take (m + n) (numbered (points last) lasts) ≡ numbered (points v) bs ++ numbered (points w) cs
  written old mid last olds mids lasts e f g h = two_runs _ last _ lasts (in-turn old mid last v w (3 * m) e f lv) (in-turn olds mids lasts bs cs m g h lb)
