-- Laws of the walks that cut: a leg that the point is not along changes nothing, a cut leaves no fewer pieces, and what a walk's step answers decides the walk.
-- Assumes nothing.
use Rattle.std.specs.Prelude.{Result, Ok, Err}
use mathlib.Core.Path.{◌≡◌, refl, sym, ap, ◌∙◌}
use mathlib.Core.Bool.{Bool, true, false}
use mathlib.Core.List.{List}
use Prim.Native.Nat.{ℕ, zero, suc, ◌+◌, ◌-◌, ◌*◌, ◌≤◌, ◌<◌}
use native.Mathlib.Omega.{arith}
use lib.Ieee.{Float}
use lib.ListN.{length, get_or, length-append, length-drop, length-take}
use Rattle.sphericalpoint.specs.declared.SphericalPoint.{SphericalPoint}
use Rattle.arcstring.specs.declared.inner.vertex.Vertex.{Vertex}
use Rattle.arcstring_check.specs.declared.check.Refusal.{Refusal}
use Rattle.arcstring_check.specs.Answer.{Answer, refused, answered, and_then, pick, refusal_number}
use Rattle.arcstring.specs.Points.{StringOf, numbered, place_of, places_of, points}
use Rattle.arcstring.specs.Leg.{leg_at, leg_count}
use Rattle.arcstring.proofs.Flat.{length-points}
use Rattle.arcstring.proofs.Numbered.{all_places}
use Rattle.arcstring_build.specs.Build.{built_numbered}
use Rattle.arcstring_along.specs.OnString.{along_leg}
use Rattle.arcstring_insert.specs.Steps.{for_positions, leg_from}
use Rattle.arcstring_insert.proofs.Steps.{positions_on, positions_stop, positions_end}
use Rattle.arcstring_insert.proofs.Limits.{within_limit}
use Rattle.arcstring_insert.proofs.LegFrom.{leg_from_lem}
use Rattle.arcstring_piece.specs.declared.inner.pieces.Pieces.{Pieces}
use Rattle.arcstring_piece.specs.Cut.{cut_at, cut_at_leg, cut_place, no_string}
use Rattle.arcstring_piece.specs.Standing.{standing, held_pieces}
use Rattle.arcstring_piece.proofs.inner.pieces.CutLists.{first_length}

-- ---- no fewer pieces

-- f leaves no fewer pieces than it finds
abbrev pub Longer : (List (StringOf Vertex) → Answer (List (StringOf Vertex))) → Type 0
Longer f = (ss ts : List (StringOf Vertex)) → f ss ≡ answered ts → length ss ≤ length ts

cut_longer : (x : Vertex) (xs : List Vertex) (k i : ℕ) → Longer (cut_at place_of built_numbered x xs k i)
unfolding cut_at
cut_longer x xs k i ss ts h =
    let e = within_limit _ ts _ h in
    omega (arith, ap length (sym e), simp length-append at (ap length (sym e)), length-take k ss, length-drop (k + 1) ss)

by_test : (b : Bool) (ss ts : List (StringOf Vertex)) (a : Answer (List (StringOf Vertex))) → pick b a (answered ss) ≡ answered ts →
    (a ≡ answered ts → length ss ≤ length ts) → length ss ≤ length ts
by_test true ss ts a h f = f h
by_test false ss ts a h f = let e : ss ≡ ts = cc in omega (arith, ap length e)

pub leg_longer : (x : Vertex) (xs : List Vertex) (k i : ℕ) → Longer (cut_at_leg place_of built_numbered x xs k i)
unfolding cut_at_leg
leg_longer x xs k i ss ts h =
    by_test (along_leg (place_of x) (leg_from (places_of xs) i)) ss ts (cut_at place_of built_numbered x xs k i ss) h (cut_longer x xs k i ss ts)

then_longer : (a : Answer (List (StringOf Vertex))) (f : List (StringOf Vertex) → Answer (List (StringOf Vertex))) (ss ts : List (StringOf Vertex)) →
    ((us : List (StringOf Vertex)) → a ≡ answered us → length ss ≤ length us) → Longer f →
    and_then a f ≡ answered ts → length ss ≤ length ts
then_longer (refused n) f ss ts first second h = absurd (let z : ◌≡◌ {A = ℕ} 0 1 = cc in omega arith)
then_longer (answered us) f ss ts first second h = omega (arith, first us refl, second us ts h)

positions_longer : (f : ℕ → List (StringOf Vertex) → Answer (List (StringOf Vertex))) → ((k : ℕ) → Longer (f k)) → (count k : ℕ) →
    Longer (for_positions f k count)
unfolding for_positions
positions_longer f each zero k ss ts h = let e : ss ≡ ts = cc in omega (arith, ap length e)
positions_longer f each (suc count) k ss ts h = then_longer (f k ss) (for_positions f (k + 1) count) ss ts (each k ss) (positions_longer f each count (k + 1)) h

pub place_longer : (x : Vertex) (k : ℕ) → Longer (cut_place place_of built_numbered x k)
unfolding cut_place
place_longer x k ss ts h =
    positions_longer (cut_at_leg place_of built_numbered x (get_or ss k no_string).vertices k) (leg_longer x (get_or ss k no_string).vertices k)
    (leg_count (length (get_or ss k no_string).vertices) (get_or ss k no_string).closed) 0 ss ts h

-- ---- a walk over positions, from the pieces that stand there on

-- The walk from position i on, over the pieces that stand there now, answers `whole`; there were m at first.
pub record Walks (f : ℕ → List (StringOf Vertex) → Answer (List (StringOf Vertex))) (whole : Answer (List (StringOf Vertex))) (m last i : ℕ) (p : Pieces) :
    Type 0 where
  pub no_fewer : m ≤ p.count
  pub goes_on : for_positions f i (last - i) (standing p) ≡ whole

module _ (f : ℕ → List (StringOf Vertex) → Answer (List (StringOf Vertex))) (last : ℕ) (p : Pieces) where
  pub walk_start : Walks f (for_positions f 0 last (standing p)) p.count last 0 p
  walk_start =
      let e : last - 0 ≡ last = omega arith in
      record { no_fewer = omega arith; goes_on = ap (λ (count : ℕ). for_positions f 0 count (standing p)) e }

  module _ (whole : Answer (List (StringOf Vertex))) (m i : ℕ) (walks : Walks f whole m last i p) where
    pub walk_end : last ≤ i → answered (standing p) ≡ whole
    walk_end h = sym (positions_end f i last (standing p) h) ∙ walks.goes_on

    -- a step that changes nothing
    pub walk_same : i < last → f i (standing p) ≡ answered (standing p) → Walks f whole m last (i + 1) p
    walk_same h e = record { no_fewer = walks.no_fewer; goes_on = sym (positions_on f i last (standing p) (standing p) h e) ∙ walks.goes_on }

    module _ (p' : Pieces) (h : i < last) where
      pub walk_stops : (e : Refusal) → held_pieces (Err e) p' ≡ f i (standing p) → held_pieces (Err e) p' ≡ whole
      walk_stops e step = sym (positions_stop f i last (standing p) (refusal_number e) h (sym step)) ∙ walks.goes_on

      pub walk_step : Longer (f i) → answered (standing p') ≡ f i (standing p) → Walks f whole m last (i + 1) p'
      walk_step longer step =
          record {
            no_fewer = omega (arith, walks.no_fewer, longer _ _ (sym step), first_length p, first_length p');
            goes_on = sym (positions_on f i last (standing p) (standing p') h (sym step)) ∙ walks.goes_on;
          }

-- ---- the walk over the legs of a copy

-- what is done at leg i of the copy v, with the numbers bs, of the string at place k
abbrev pub leg_step : Vertex → List Float → List ℕ → ℕ → ℕ → List (StringOf Vertex) → Answer (List (StringOf Vertex))
leg_step x v bs k = cut_at_leg place_of built_numbered x (numbered (points v) bs) k

-- b whether the point is along the leg, which is read of the n vertices of w
module _ (x : Vertex) (v : List Float) (bs : List ℕ) (k i : ℕ) (whole : length v ≡ 3 * length bs) (h : i < length bs) (w : List Float) (n : ℕ)
    (same : (w ≡ v) × (n ≡ length bs)) (b : Bool) (test : b ≡ along_leg (place_of x) (leg_at w n i)) (ss : List (StringOf Vertex)) where
  abbrev xs : List Vertex
  xs = numbered (points v) bs

  along : along_leg (place_of x) (leg_from (places_of xs) i) ≡ b
  along =
      ap (λ (ps : List SphericalPoint). along_leg (place_of x) (leg_from ps i)) (all_places (points v) bs (sym (length-points (length bs) v whole)))
      ∙ sym (test ∙ (λ j. along_leg (place_of x) (leg_at (same.0 j) (same.1 j) i)) ∙ ap (along_leg (place_of x)) (leg_from_lem v (length bs) i whole h))

  by_leg : (t : Bool) → b ≡ t → leg_step x v bs k i ss ≡ pick t (cut_at place_of built_numbered x xs k i ss) (answered ss)
  unfolding cut_at_leg
  by_leg t e = ap (λ (u : Bool). pick u (cut_at place_of built_numbered x xs k i ss) (answered ss)) (along ∙ e)

  pub leg_off : b ≡ false → leg_step x v bs k i ss ≡ answered ss
  leg_off e = by_leg false e

  pub leg_cut : b ≡ true → cut_at place_of built_numbered x xs k i ss ≡ leg_step x v bs k i ss
  leg_cut e = sym (by_leg true e)
