-- A leg's check, and the legs of a string by position: which one stands where, and those from a position on, one after the other. Assumes nothing.
use Rattle.std.specs.Prelude.{Err}
use mathlib.Core.Path.{◌≡◌, refl, sym, ap, ap₂, ◌∙◌}
use mathlib.Core.Bool.{Bool, true, false}
use mathlib.Core.List.{List, [], ◌∷◌, ◌++◌}
use Prim.Native.Nat.{ℕ, zero, suc, ◌+◌, ◌-◌, ◌*◌, ◌<◌, ◌≤◌}
use native.Mathlib.Numerals.{add-one}
use native.Mathlib.Omega.{arith}
use lib.ListN.{length, get_or, take, drop, length-append, get_or-append}
use lib.Seq.{drop-cons, drop-drop, take_all, take-nil, get_or_at}
use lib.Dec.{ltb}
use lib.Ieee.{Float}
use borrow.Author.Tests.{ltb-true, ltb-false, lt-ltb, le-ltb}
use Rattle.sphericalpoint.specs.declared.SphericalPoint.{SphericalPoint}
use Rattle.arcstring.specs.Points.{points, point_at, no_point}
use Rattle.arcstring.proofs.Flat.{length-points, point_at_lem}
use Rattle.arcstring_check.specs.Answer.{pick, refusal_number}
use Rattle.arcstring_check.proofs.Answers.{first_refused}
use Rattle.arcstring_check.specs.declared.check.Refusal.{Refusal}
use Rattle.arcstring_check.specs.Check.{point_check}
use Rattle.arcstring.specs.Leg.{Leg, leg, leg_check, chain, legs, position_after, leg_at, legs_from, leg_count, leg_floats}

-- a leg is checked at its start, then at its end
pub leg_stopped : (l : Leg) (u : SphericalPoint) (e : Refusal) → u ≡ l.from → refusal_number e ≡ point_check u → refusal_number e ≡ leg_check l
unfolding leg_check
leg_stopped l u e h r =
    let p : refusal_number e ≡ point_check l.from = r ∙ ap point_check h in
    rw (← p) (first_refused (Err e) e (point_check l.to) refl)

pub leg_went_on : (l : Leg) (u v : SphericalPoint) (n : ℕ) → u ≡ l.from → 0 ≡ point_check u → v ≡ l.to → n ≡ point_check v → n ≡ leg_check l
unfolding leg_check
leg_went_on l u v n h i j k = rw (← h, ← i, k, j)

-- ---- a chain of points

length-chain : (u : SphericalPoint) (vs : List SphericalPoint) → length (chain u vs) ≡ length vs
length-chain u [] = refl
length-chain u (v ∷ vs) = ap suc (length-chain v vs)

chain_at : (u : SphericalPoint) (vs : List SphericalPoint) (k : ℕ) (d : Leg) (p : SphericalPoint) → k < length vs
    → get_or (chain u vs) k d ≡ leg (get_or (u ∷ vs) k p) (get_or vs k p)
chain_at u [] k d p h = absurd (omega arith)
chain_at u (v ∷ vs) zero d p h = refl
chain_at u (v ∷ vs) (suc k) d p h = chain_at v vs k d p (omega arith)

chain_front : (u : SphericalPoint) (vs ws : List SphericalPoint) → take (length vs) (chain u (vs ++ ws)) ≡ chain u vs
chain_front u [] ws = refl
chain_front u (v ∷ vs) ws = ap (λ (r : List Leg). leg u v ∷ r) (chain_front v vs ws)

-- ---- the legs of a closed string, and of an open one

pub length-legs : (ps : List SphericalPoint) → length (legs ps true) ≡ length ps
unfolding legs
length-legs [] = refl
length-legs (u ∷ vs) = length-chain u (vs ++ (u ∷ [])) ∙ length-append vs (u ∷ []) ∙ add-one (length vs)

-- an open string's legs are all but the last of the closed one's
pub open_legs : (ps : List SphericalPoint) → legs ps false ≡ take (length ps - 1) (legs ps true)
unfolding legs
open_legs [] = refl
open_legs (u ∷ vs) = let e : suc (length vs) - 1 ≡ length vs = omega arith in rw e (sym (chain_front u vs (u ∷ [])))

pub length_open_legs : (ps : List SphericalPoint) → length (legs ps false) ≡ length ps - 1
unfolding legs
length_open_legs [] = refl
length_open_legs (u ∷ vs) = length-chain u vs ∙ omega arith

leg_to_next : (ps : List SphericalPoint) (k : ℕ) (d : Leg) (p : SphericalPoint) → k + 1 < length ps
    → get_or (legs ps true) k d ≡ leg (get_or ps k p) (get_or ps (k + 1) p)
unfolding legs
leg_to_next [] k d p h = absurd (omega arith)
leg_to_next (u ∷ vs) k d p h =
    let l : k < length vs = omega arith in
    let m : k < length (vs ++ (u ∷ [])) = omega (arith, length-append vs (u ∷ [])) in
    chain_at u (vs ++ (u ∷ [])) k d p m
    ∙ ap₂ leg (get_or-append (u ∷ vs) (u ∷ []) p k (omega arith)) (rw add-one (get_or-append vs (u ∷ []) p k l))

leg_to_first : (ps : List SphericalPoint) (k : ℕ) (d : Leg) (p : SphericalPoint) → k < length ps → length ps ≤ k + 1
    → get_or (legs ps true) k d ≡ leg (get_or ps k p) (get_or ps 0 p)
unfolding legs
leg_to_first [] k d p h l = absurd (omega arith)
leg_to_first (u ∷ vs) k d p h l =
    let m : k < length (vs ++ (u ∷ [])) = omega (arith, length-append vs (u ∷ [])) in
    chain_at u (vs ++ (u ∷ [])) k d p m
    ∙ ap₂ leg (get_or-append (u ∷ vs) (u ∷ []) p k h) (get_or_at vs u [] p k (omega arith))

-- ---- leg k of n vertices

pub after_next : (k n : ℕ) → k + 1 < n → k + 1 ≡ position_after k n
unfolding position_after
after_next k n h = rw (lt-ltb (k + 1) n h)

pub after_last : (k n : ℕ) → n ≤ k + 1 → 0 ≡ position_after k n
unfolding position_after
after_last k n h = rw (le-ltb (k + 1) n h)

-- leg k goes from vertex k to the one after it
pub leg_after : (v : List Float) (n k : ℕ) → leg (point_at v k) (point_at v (position_after k n)) ≡ leg_at v n k
unfolding leg_at position_after
leg_after v n k = by_next (ltb (k + 1) n)
  where
    by_next : (b : Bool) → leg (point_at v k) (point_at v (pick b (k + 1) 0)) ≡ leg (point_at v k) (pick b (point_at v (k + 1)) (point_at v 0))
    by_next true = refl
    by_next false = refl

pub next-leg : (v : List Float) (n k : ℕ) → k + 1 < n → leg (point_at v k) (point_at v (k + 1)) ≡ leg_at v n k
unfolding leg_at
next-leg v n k h = rw (lt-ltb (k + 1) n h)

pub last_leg : (v : List Float) (n k : ℕ) → n ≤ k + 1 → leg (point_at v k) (point_at v 0) ≡ leg_at v n k
unfolding leg_at
last_leg v n k h = rw (le-ltb (k + 1) n h)

module _ (v : List Float) (n : ℕ) (whole : length v ≡ 3 * n) where
  pub leg_of-string : (k : ℕ) (d : Leg) → k < n → get_or (legs (points v) true) k d ≡ leg_at v n k
  leg_of-string k d h = go (length-points n v whole) (ltb (k + 1) n) refl
    where
      go : length (points v) ≡ n → (b : Bool) → ltb (k + 1) n ≡ b → get_or (legs (points v) true) k d ≡ leg_at v n k
      go len true e =
          let l : k + 1 < n = ltb-true (k + 1) n e in
          leg_to_next (points v) k d no_point (omega arith) ∙ ap₂ leg (point_at_lem v k no_point (omega arith)) (point_at_lem v (k + 1) no_point (omega arith))
          ∙ next-leg v n k l
      go len false e =
          let l : n ≤ k + 1 = ltb-false (k + 1) n e in
          leg_to_first (points v) k d no_point (omega arith) (omega arith)
          ∙ ap₂ leg (point_at_lem v k no_point (omega arith)) (point_at_lem v 0 no_point (omega arith))
          ∙ last_leg v n k l

  -- the legs from a position on begin with the leg there
  pub legs-step : (from to : ℕ) → from < to → to ≤ n → legs_from v from to ≡ leg_at v n from ∷ legs_from v (from + 1) to
  unfolding legs_from
  legs-step from to h l =
      let d = leg_at v n from in
      let long : from < length (legs (points v) true) = omega (arith, length-legs (points v), length-points n v whole) in
      let e : to - from ≡ suc (to - suc from) = omega arith in
      rw (add-one, e, drop-cons (legs (points v) true) from d long, leg_of-string from d (omega arith))

pub legs_none : (v : List Float) (from to : ℕ) → to ≤ from → legs_from v from to ≡ []
unfolding legs_from
legs_none v from to h = let e : to - from ≡ 0 = omega arith in rw e

tail_take : (j : ℕ) (ls : List Leg) → drop 1 (take j ls) ≡ take (j - 1) (drop 1 ls)
tail_take zero ls = refl
tail_take (suc j) [] = sym (take-nil (suc j - 1))
tail_take (suc j) (x ∷ ls) = let e : suc j - 1 ≡ j = omega arith in rw e

-- the legs after the first one
pub legs_tail : (v : List Float) (from to : ℕ) → drop 1 (legs_from v from to) ≡ legs_from v (from + 1) to
unfolding legs_from
legs_tail v from to =
    let e : to - from - 1 ≡ to - (from + 1) = omega arith in
    tail_take (to - from) (drop from (legs (points v) true)) ∙ rw (e, drop-drop)

take_short : (j : ℕ) (ls : List Leg) → length (take j ls) ≤ j
take_short zero ls = omega arith
take_short (suc j) [] = omega arith
take_short (suc j) (x ∷ ls) = omega (arith, take_short j ls)

pub legs_few : (v : List Float) (from to : ℕ) → length (legs_from v from to) ≤ to - from
unfolding legs_from
legs_few v from to = take_short (to - from) (drop from (legs (points v) true))

-- all legs
pub legs_whole : (v : List Float) (n : ℕ) (closed : Bool) → length v ≡ 3 * n → legs_from v 0 (leg_count n closed) ≡ legs (points v) closed
unfolding legs_from leg_count
legs_whole v n true h =
    let e : n - 0 ≡ n = omega arith in
    rw e (take_all n (legs (points v) true) (omega (arith, length-legs (points v), length-points n v h)))
legs_whole v n false h =
    let e : n - 1 - 0 ≡ length (points v) - 1 = omega (arith, length-points n v h) in
    rw e (sym (open_legs (points v)))

pub closed_count : (n : ℕ) (closed : Bool) → closed ≡ true → n ≡ leg_count n closed
unfolding leg_count
closed_count n closed h = rw h

pub open_count : (n : ℕ) (closed : Bool) → closed ≡ false → n - 1 ≡ leg_count n closed
unfolding leg_count
open_count n closed h = rw h

-- ---- a leg as a string of two vertices

pub leg_as : (l : Leg) (a : List Float) → a ≡ leg_floats l → leg_at a 2 0 ≡ l
unfolding leg_at leg_floats
leg_as l a h = rw h
