-- Points in reverse build to the string in reverse, and the counts of built strings stay the same, as `specs/BuiltChanges.antt` has it. Assumes nothing.
use mathlib.Core.Path.{◌≡◌, refl, sym, ap, ap₂, ◌∙◌}
use mathlib.Core.Bool.{Bool, true, false}
use mathlib.Core.List.Permᴰ
use mathlib.Core.List.{List, [], ◌∷◌, ◌++◌, map, reverse, map-append, reverse-cons, reverse-append}
use Prim.Native.Nat.{ℕ, suc, ◌+◌, ◌-◌}
use native.Mathlib.Omega.{arith}
use lib.ListN.{length, get_or, take, length-append}
use lib.Seq.{take-append-le, take_all}
use lib.Ieee.{Float}
use borrow.Author.Tests.{lt-ltb}
use Rattle.sphericalpoint.specs.declared.SphericalPoint.{SphericalPoint}
use Rattle.sphericalpoint.specs.Vector.{xyz_eq}
use Rattle.sphericalpoint.specs.Point.{normalized_unless_short}
use Rattle.arcstring_check.specs.Answer.{pick}
use Rattle.arcstring.specs.Points.{no_point}
use Rattle.arcstring_build.specs.Build.{normalized_all, ends_meet, built_of, built_vertices, built_string}
use Rattle.arcstring_walk.specs.Walk.{restarted}
use Rattle.arcstring.proofs.Numbered.{map-reverse}
use Rattle.arcstring.specs.Leg.{Leg, chain, legs}
use Rattle.arcstring_tally.specs.Pairs.{pairs_between}
use Rattle.same_crossings.specs.Changes.{PointValue, point_value}
use Rattle.same_crossings.specs.BuiltChanges.{ClosesOnItself, BuildsInReverse, pairs_of_strings, BuiltReversed, StringsTrade}
use Rattle.sphericalpoint.proofs.VectorValues.{eq_swap}
use Rattle.same_crossings.proofs.PointValues.{point_same}
use Rattle.same_crossings.proofs.PairOrders.{same_order}
use Rattle.same_crossings.proofs.LegLists.{turned, legs_backwards, legs-restarted}
use Rattle.same_crossings.proofs.SamePairs.{SamePairs, AllAlike, no_legs, one_more_lem, counts_same, legs_alike, legs_turned, strings_traded}

-- ---- a list by its last element

module _ {A : Type 0} where
  data ByLast : List A → Type 0 where
    empty : ByLast []
    last : (xs : List A) (q : A) → ByLast (xs ++ (q ∷ []))

  by_last : (xs : List A) → ByLast xs
  by_last [] = empty
  by_last (x ∷ xs) = go (by_last xs)
    where
      go : {ys : List A} → ByLast ys → ByLast (x ∷ ys)
      go empty = last [] x
      go (last ys q) = last (x ∷ ys) q

  one_less : (xs : List A) (q : A) → length (xs ++ (q ∷ [])) - 1 ≡ length xs
  one_less xs q = omega (arith, length-append xs (q ∷ []))

  last_of : (xs : List A) (q d : A) → get_or (xs ++ (q ∷ [])) (length (xs ++ (q ∷ [])) - 1) d ≡ q
  last_of xs q d = ap (λ (k : ℕ). get_or (xs ++ (q ∷ [])) k d) (one_less xs q) ∙ go xs
    where
      go : (ys : List A) → get_or (ys ++ (q ∷ [])) (length ys) d ≡ q
      go [] = refl
      go (y ∷ ys) = go ys

  all_but_last : (xs : List A) (q : A) → take (length (xs ++ (q ∷ [])) - 1) (xs ++ (q ∷ [])) ≡ xs
  all_but_last xs q =
      ap (λ (k : ℕ). take k (xs ++ (q ∷ []))) (one_less xs q) ∙ take-append-le (length xs) xs (q ∷ []) (omega arith) ∙ take_all (length xs) xs (omega arith)

  -- first and last trade places
  ends_reversed : (p : A) (mid : List A) (q : A) → reverse ((p ∷ mid) ++ (q ∷ [])) ≡ (q ∷ reverse mid) ++ (p ∷ [])
  ends_reversed p mid q = reverse-append (p ∷ mid) (q ∷ []) ∙ ap (λ (l : List A). q ∷ l) (reverse-cons p mid)

  -- begun at vertex 1
  from_one : (w : A) (ws : List A) → restarted (w ∷ ws) true 1 ≡ ws ++ (w ∷ [])
  unfolding restarted
  from_one w [] = refl
  from_one w (x ∷ ws) =
      ap (λ (b : Bool). pick b ((x ∷ ws) ++ (w ∷ [])) (w ∷ x ∷ ws)) (lt-ltb 1 (suc (suc (length ws))) (omega arith))

-- ---- the flag

meet_reversed : (qs : List SphericalPoint) → ends_meet (reverse qs) ≡ ends_meet qs
unfolding ends_meet
meet_reversed qs = go (by_last qs)
  where
    go : {ys : List SphericalPoint} → ByLast ys → xyz_eq (get_or (reverse ys) 0 no_point) (get_or (reverse ys) (length (reverse ys) - 1) no_point)
        ≡ xyz_eq (get_or ys 0 no_point) (get_or ys (length ys - 1) no_point)
    go empty = refl
    go (last [] q) = refl
    go (last (p ∷ mid) q) =
        ap (λ (l : List SphericalPoint). xyz_eq (get_or l 0 no_point) (get_or l (length l - 1) no_point)) (ends_reversed p mid q)
        ∙ ap (xyz_eq q) (last_of (q ∷ reverse mid) p no_point)
        ∙ eq_swap q p
        ∙ ap (xyz_eq p) (sym (last_of (p ∷ mid) q no_point))

flag_reversed : (ps : List SphericalPoint) → ends_meet (normalized_all (reverse ps)) ≡ ends_meet (normalized_all ps)
flag_reversed ps = ap ends_meet (map-reverse normalized_unless_short ps) ∙ meet_reversed (normalized_all ps)

-- ---- the vertices

module _ (f : SphericalPoint → SphericalPoint) where
  closed_built : (xs : List SphericalPoint) (q : SphericalPoint) → built_of f true (xs ++ (q ∷ [])) ≡ map f (map f xs)
  closed_built xs q =
      ap (λ (l : List SphericalPoint). map f (take (length l - 1) l)) (map-append f xs (q ∷ [])) ∙ ap (map f) (all_but_last (map f xs) (f q))

  -- the points between stand in reverse, and the first vertex stays
  closed_reversed : (ps : List SphericalPoint) → point_value (f (f (get_or ps 0 no_point))) ≡ point_value (f (f (get_or ps (length ps - 1) no_point)))
      → map point_value (built_of f true (reverse ps)) ≡ map point_value (reverse (restarted (built_of f true ps) true 1))
  unfolding restarted
  closed_reversed ps = go (by_last ps)
    where
      go : {ys : List SphericalPoint} → ByLast ys → point_value (f (f (get_or ys 0 no_point))) ≡ point_value (f (f (get_or ys (length ys - 1) no_point)))
          → map point_value (built_of f true (reverse ys)) ≡ map point_value (reverse (restarted (built_of f true ys) true 1))
      go empty same = refl
      go (last [] q) same = refl
      go (last (p ∷ mid) q) same =
          let w = f (f p) in
          let ws = map f (map f mid) in
          ap (map point_value) (ap (built_of f true) (ends_reversed p mid q) ∙ closed_built (q ∷ reverse mid) p)
          ∙ ap₂ ◌∷◌ (sym (same ∙ ap (λ (x : SphericalPoint). point_value (f (f x))) (last_of (p ∷ mid) q no_point)))
          (ap (map point_value) (ap (map f) (map-reverse f mid) ∙ map-reverse f (map f mid)))
          ∙ ap (map point_value)
          (sym (reverse-append ws (w ∷ []))
          ∙ ap reverse (sym (from_one w ws))
          ∙ ap (λ (l : List SphericalPoint). reverse (restarted l true 1)) (sym (closed_built (p ∷ mid) q)))

pub builds_in_reverse : BuildsInReverse
unfolding built_string built_vertices
builds_in_reverse ps =
    let meet = ends_meet (normalized_all ps) in
    let turn = ap (λ (b : Bool). built_of normalized_unless_short b (reverse ps)) (flag_reversed ps) in
    record {
      same_flag = flag_reversed ps;
      open_vertices = λ e. turn
          ∙ ap (λ (b : Bool). built_of normalized_unless_short b (reverse ps)) e
          ∙ map-reverse normalized_unless_short ps
          ∙ ap (λ (b : Bool). reverse (built_of normalized_unless_short b ps)) (sym e);
      closed_vertices = λ e same. ap (map point_value) (turn ∙ ap (λ (b : Bool). built_of normalized_unless_short b (reverse ps)) e)
          ∙ closed_reversed normalized_unless_short ps (same e)
          ∙ ap (λ (b : Bool). map point_value (reverse (restarted (built_of normalized_unless_short b ps) true 1))) (sym e);
    }

-- ---- the legs, and the counts

-- vertices of the same values have legs of the same values
chain_alike : (u w : SphericalPoint) → point_value u ≡ point_value w → (vs ws : List SphericalPoint) → map point_value vs ≡ map point_value ws
    → AllAlike (chain u vs) (chain w ws)
chain_alike u w h [] [] e = no_legs
chain_alike u w h [] (x ∷ ws) e = absurd (let z : ◌≡◌ {A = ℕ} 0 (suc (length (map point_value ws))) = ap length e in omega arith)
chain_alike u w h (v ∷ vs) [] e = absurd (let z : ◌≡◌ {A = ℕ} (suc (length (map point_value vs))) 0 = ap length e in omega arith)
chain_alike u w h (v ∷ vs) (x ∷ ws) e =
    let k : point_value v ≡ point_value x = cc in
    let rest : map point_value vs ≡ map point_value ws = cc in
    one_more_lem (point_same h) (point_same k) (chain_alike v x k vs ws rest)

ring_alike : (ps qs : List SphericalPoint) → map point_value ps ≡ map point_value qs → AllAlike (legs ps true) (legs qs true)
unfolding legs
ring_alike [] [] e = no_legs
ring_alike [] (q ∷ qs) e = absurd (let z : ◌≡◌ {A = ℕ} 0 (suc (length (map point_value qs))) = ap length e in omega arith)
ring_alike (p ∷ ps) [] e = absurd (let z : ◌≡◌ {A = ℕ} (suc (length (map point_value ps))) 0 = ap length e in omega arith)
ring_alike (p ∷ ps) (q ∷ qs) e =
    let k : point_value p ≡ point_value q = cc in
    let rest : map point_value ps ≡ map point_value qs = cc in
    chain_alike p q k (ps ++ (p ∷ [])) (qs ++ (q ∷ []))
    (map-append point_value ps (p ∷ []) ∙ ap₂ (λ (l : List PointValue) (x : PointValue). l ++ (x ∷ [])) rest k ∙ sym (map-append point_value qs (q ∷ [])))

module _ (margin : Float) (ps : List SphericalPoint) (same : ClosesOnItself ps) (ms : List Leg) where
  abbrev legs_of_built : List SphericalPoint → List Leg
  legs_of_built qs = legs (built_string qs).vertices (built_string qs).closed

  pairs_reversed : SamePairs (pairs_between margin (legs_of_built (reverse ps)) ms) (pairs_between margin (legs_of_built ps) ms)
  pairs_reversed = go (built_string ps).closed refl
    where
      go : (b : Bool) → (built_string ps).closed ≡ b
          → SamePairs (pairs_between margin (legs_of_built (reverse ps)) ms) (pairs_between margin (legs_of_built ps) ms)
      go false e =
          let r = builds_in_reverse ps in
          legs_turned margin (legs_of_built (reverse ps)) (legs_of_built ps) ms
          (Permᴰ.trans (same_order (ap₂ legs (r.open_vertices e) r.same_flag)) (legs_backwards (built_string ps).vertices (built_string ps).closed))
      go true e =
          let r = builds_in_reverse ps in
          let vs = (built_string ps).vertices in
          let us = reverse (restarted vs true 1) in
          let ws = (built_string (reverse ps)).vertices in
          rw (r.same_flag, e)
          (Permᴰ.trans (legs_alike margin (legs ws true) (legs us true) ms (ring_alike ws us (r.closed_vertices e same)))
          (legs_turned margin (legs us true) (legs vs true) ms
          (Permᴰ.trans (legs_backwards (restarted vs true 1) true) (Permᴰ.map turned (legs-restarted vs true 1)))))

pub built_reversed : BuiltReversed
built_reversed margin ps same t =
    counts_same (pairs_of_strings margin (built_string (reverse ps)) t) (pairs_of_strings margin (built_string ps) t)
    (pairs_reversed margin ps same (legs t.vertices t.closed))

pub strings_trade : StringsTrade
strings_trade margin s t =
    counts_same (pairs_of_strings margin t s) (pairs_of_strings margin s t)
    (strings_traded margin (legs s.vertices s.closed) (legs t.vertices t.closed))
