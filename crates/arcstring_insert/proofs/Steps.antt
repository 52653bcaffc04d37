-- Steps taken in turn: how a step's answer, or its refusal, decides the whole; and the check of a result. Assumes nothing.
use mathlib.Core.Path.{◌≡◌, sym, ap, ap₂, ◌∙◌}
use mathlib.Core.Bool.{Bool}
use mathlib.Core.List.{List, ◌∷◌}
use Prim.Native.Nat.{ℕ, suc, ◌+◌, ◌-◌, ◌*◌, ◌≤◌, ◌<◌}
use native.Mathlib.Numerals.{add-one}
use native.Mathlib.Omega.{arith}
use lib.ListN.{length, get_or, drop, drop_of_length-le}
use lib.Seq.{drop-cons}
use lib.Ieee.{Float}
use borrow.Author.Tests.{lt-ltb, le-ltb}
use Rattle.arcstring.specs.declared.inner.vertex.Vertex.{Vertex}
use Rattle.arcstring_check.specs.Answer.{Answer, refused, answered, unless_refused, and_then, number_if}
use Rattle.arcstring.specs.Points.{numbered, points}
use Rattle.arcstring.specs.Positions.{vertex_at}
use Rattle.arcstring_check.specs.Check.{most_points}
use Rattle.arcstring.proofs.Flat.{points-next}
use Rattle.arcstring.proofs.Numbered.{numbered-drop}
use Rattle.arcstring_check.proofs.Answers.{then_refused, then_answered}
use Rattle.arcstring_insert.specs.Steps.{for_each, for_positions, limited}

-- ---- a step for each element of a list, from element i on

module _ {A B : Type 0} (f : A → B → Answer B) (l : List A) (i : ℕ) (x : B) where
  module _ (a : A) (next : drop i l ≡ a ∷ drop (i + 1) l) where
    each_step : for_each f (drop i l) x ≡ and_then (f a x) (for_each f (drop (i + 1) l))
    unfolding for_each
    each_step = ap (λ (m : List A). for_each f m x) next

    pub each_on : (y : B) → f a x ≡ answered y → for_each f (drop i l) x ≡ for_each f (drop (i + 1) l) y
    each_on y e = each_step ∙ then_answered (f a x) (for_each f (drop (i + 1) l)) y e

    pub each_stops : (r : ℕ) → f a x ≡ refused r → for_each f (drop i l) x ≡ refused r
    each_stops r e = each_step ∙ then_refused (f a x) (for_each f (drop (i + 1) l)) r e

  pub each_end : length l ≤ i → for_each f (drop i l) x ≡ answered x
  unfolding for_each
  each_end h = ap (λ (m : List A). for_each f m x) (drop_of_length-le l h)

-- the vertices of a flat list and of its numbers from i on begin with vertex i
pub vertices_next : (v : List Float) (bs : List ℕ) (n i : ℕ) → length v ≡ 3 * n → length bs ≡ n → i < n
    → drop i (numbered (points v) bs) ≡ vertex_at v bs i ∷ drop (i + 1) (numbered (points v) bs)
vertices_next v bs n i whole same h =
    sym (numbered-drop i (points v) bs)
    ∙ ap₂ numbered (points-next n v i whole h) (drop-cons bs i 0 (omega arith) ∙ ap (λ (j : ℕ). get_or bs i 0 ∷ drop j bs) (sym (add-one i)))
    ∙ ap (λ (vs : List Vertex). vertex_at v bs i ∷ vs) (numbered-drop (i + 1) (points v) bs)

-- ---- a step for each position up to m

module _ {B : Type 0} (f : ℕ → B → Answer B) (k m : ℕ) (x : B) where
  positions_step : k < m → for_positions f k (m - k) x ≡ and_then (f k x) (for_positions f (k + 1) (m - (k + 1)))
  unfolding for_positions
  positions_step h = let e : m - k ≡ suc (m - (k + 1)) = omega arith in ap (λ (count : ℕ). for_positions f k count x) e

  pub positions_on : (y : B) → k < m → f k x ≡ answered y → for_positions f k (m - k) x ≡ for_positions f (k + 1) (m - (k + 1)) y
  positions_on y h e = positions_step h ∙ then_answered (f k x) (for_positions f (k + 1) (m - (k + 1))) y e

  pub positions_stop : (r : ℕ) → k < m → f k x ≡ refused r → for_positions f k (m - k) x ≡ refused r
  positions_stop r h e = positions_step h ∙ then_refused (f k x) (for_positions f (k + 1) (m - (k + 1))) r e

  pub positions_end : m ≤ k → for_positions f k (m - k) x ≡ answered x
  unfolding for_positions
  positions_end h = let e : m - k ≡ 0 = omega arith in ap (λ (count : ℕ). for_positions f k count x) e

-- ---- the check of a result

module _ {A : Type 0} (size : ℕ) (x : A) where
  pub over_limit : most_points < size → limited size x ≡ refused 3
  unfolding limited
  over_limit h = ap (λ (b : Bool). unless_refused (number_if b 3) (answered x)) (lt-ltb most_points size h)

  pub at_most_limit : size ≤ most_points → limited size x ≡ answered x
  unfolding limited
  at_most_limit h = ap (λ (b : Bool). unless_refused (number_if b 3) (answered x)) (le-ltb most_points size h)
