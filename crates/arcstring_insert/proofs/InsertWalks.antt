-- The walk of one vertex over the legs: a leg that its point is not along, one that it is along, one vertex too many, and no leg left. Assumes nothing.
use mathlib.Core.Path.{◌≡◌, refl, sym, ap, ◌∙◌}
use mathlib.Core.Bool.{Bool, true, false}
use mathlib.Core.List.{List, map}
use Prim.Native.Nat.{ℕ, suc, ◌+◌, ◌-◌, ◌*◌, ◌≤◌, ◌<◌}
use native.Mathlib.Omega.{arith}
use lib.ListN.{length, take}
use lib.Ieee.{Float}
use Rattle.sphericalpoint.specs.declared.SphericalPoint.{SphericalPoint}
use Rattle.arcstring.specs.declared.inner.vertex.Vertex.{Vertex}
use Rattle.arcstring_check.specs.Answer.{Answer, refused, answered, and_then, pick}
use Rattle.arcstring.specs.Points.{place_of}
use Rattle.arcstring.specs.Leg.{leg_at, leg_count}
use Rattle.arcstring_check.specs.Check.{most_points}
use Rattle.arcstring_check.proofs.Answers.{then_answered, then_refused}
use Rattle.arcstring_along.specs.OnString.{along_leg}
use Rattle.arcstring_insert.specs.Steps.{leg_from, limited}
use Rattle.arcstring_insert.specs.Insert.{insert_at, insert_walk, insert_point}
use Rattle.arcstring_insert.proofs.Inserted.{first_vertices, length_inserted, places_first, length_vertices}
use Rattle.arcstring_insert.proofs.LegFrom.{leg_from_first}
use Rattle.arcstring_insert.proofs.Steps.{over_limit, at_most_limit}

-- ---- one leg of the walk

module _ (x : Vertex) (k : ℕ) (xs : List Vertex) where
  -- what is put in, and the walk after it
  abbrev after : ℕ → Answer (List Vertex)
  after left = and_then (limited (length (insert_at k x xs)) (insert_at k x xs)) (insert_walk place_of x (k + 2) left)

  walk_by : (t : Bool) (left : ℕ) → along_leg x.place (leg_from (map place_of xs) k) ≡ t
      → insert_walk place_of x k (suc left) xs ≡ pick t (after left) (insert_walk place_of x (k + 1) left xs)
  unfolding insert_walk
  walk_by t left e = ap (λ (b : Bool). pick b (after left) (insert_walk place_of x (k + 1) left xs)) e

  walk_done : insert_walk place_of x k 0 xs ≡ answered xs
  unfolding insert_walk
  walk_done = refl

-- ---- the loop: m vertices stand at the start of w and bs, a leg starts at k, b whether the point is along it; the walk from there on is the whole answer

module _ (x : Vertex) (w : List Float) (bs : List ℕ) (m k legs i : ℕ) (whole : Answer (List Vertex))
    (rest : insert_walk place_of x k (legs - i) (first_vertices m w bs) ≡ whole) where
  abbrev vs : List Vertex
  vs = first_vertices m w bs

  -- with the vertex put in, and the walk that is then left
  abbrev more_vs : List Vertex
  more_vs = insert_at k x vs

  abbrev on : List Vertex → Answer (List Vertex)
  on = insert_walk place_of x (k + 2) (legs - (i + 1))

  -- no leg left
  pub walk_end : legs ≤ i → answered vs ≡ whole
  walk_end h =
      let e : legs - i ≡ 0 = omega arith in
      sym (walk_done x k vs) ∙ ap (λ (j : ℕ). insert_walk place_of x k j vs) (sym e) ∙ rest

  module _ (b : Bool) (more : i < legs) (room : 3 * m ≤ length w) (many : m ≤ length bs) (within : k < m)
      (tested : b ≡ along_leg x.place (leg_at (take (3 * m) w) m k)) where
    along_by : (t : Bool) → b ≡ t → along_leg x.place (leg_from (map place_of vs) k) ≡ t
    along_by t e =
        ap (λ (ps : List SphericalPoint). along_leg x.place (leg_from ps k)) (places_first m w bs room many)
        ∙ ap (along_leg x.place) (sym (leg_from_first w m k room within)) ∙ sym tested ∙ e

    next_by : (t : Bool) → b ≡ t → pick t (after x k vs (legs - (i + 1))) (insert_walk place_of x (k + 1) (legs - (i + 1)) vs) ≡ whole
    next_by t e =
        let s : legs - i ≡ suc (legs - (i + 1)) = omega arith in
        sym (walk_by x k vs t (legs - (i + 1)) (along_by t e)) ∙ ap (λ (j : ℕ). insert_walk place_of x k j vs) (sym s) ∙ rest

    -- not along the leg
    pub walk_past : b ≡ false → insert_walk place_of x (k + 1) (legs - (i + 1)) vs ≡ whole
    walk_past e = next_by false e

    length_more : length more_vs ≡ m + 1
    length_more = length_inserted k x vs ∙ ap (λ (j : ℕ). j + 1) (length_vertices m w bs room many)

    -- along it, and one vertex too many
    pub walk_full : b ≡ true → m ≡ most_points → refused 3 ≡ whole
    walk_full e full =
        sym (then_refused _ on 3 (over_limit (length more_vs) more_vs (omega (arith, length_more)))) ∙ next_by true e

    -- along it
    pub walk_on : (w' : List Float) (bs' : List ℕ) → b ≡ true → m < most_points → first_vertices (m + 1) w' bs' ≡ more_vs
        → on (first_vertices (m + 1) w' bs') ≡ whole
    walk_on w' bs' e some put =
        ap on put
        ∙ sym (then_answered _ on more_vs (at_most_limit (length more_vs) more_vs (omega (arith, length_more))))
        ∙ next_by true e

-- before the first leg
pub walk_begin : (x : Vertex) (w : List Float) (bs : List ℕ) (n legs : ℕ) (closed : Bool)
    → 3 * n ≤ length w → n ≤ length bs → legs ≡ leg_count n closed
    → insert_walk place_of x 0 (legs - 0) (first_vertices n w bs) ≡ insert_point place_of closed x (first_vertices n w bs)
unfolding insert_point
walk_begin x w bs n legs closed room many count =
    let e : legs - 0 ≡ legs = omega arith in
    ap (λ (j : ℕ). insert_walk place_of x 0 j (first_vertices n w bs))
    (e ∙ count ∙ ap (λ (m : ℕ). leg_count m closed) (sym (length_vertices n w bs room many)))
