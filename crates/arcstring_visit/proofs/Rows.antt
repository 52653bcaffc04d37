-- The pairs that a walk over legs visits, one after the other: what is still to be visited from a position on, and how many pairs there are. Assumes nothing.
use mathlib.Core.Path.{◌≡◌, refl, sym, ap, ap₂, ◌∙◌}
use mathlib.Core.Bool.{Bool, true, false}
use mathlib.Core.List.{List, [], ◌∷◌, ◌++◌, map}
use Prim.Native.Nat.{ℕ, zero, suc, ◌+◌, ◌-◌, ◌*◌, ◌<◌, ◌≤◌}
use native.Mathlib.Nat.{mul_comm, zero-mul, suc-mul, mul-suc, le_trans, mul-le-mul_left, mul-le-mul_right}
use native.Mathlib.Omega.{arith}
use lib.ListN.{length, drop, length-append, length-map, length-drop}
use lib.Ieee.{Float}
use Rattle.sphericalpoint.specs.declared.SphericalPoint.{SphericalPoint}
use Rattle.arcstring_check.specs.Answer.{pick}
use Rattle.arcstring_pair.specs.declared.pair.Pair.{Pair}
use Rattle.arcstring.specs.Leg.{Leg, legs, leg_at, legs_from}
use Rattle.arcstring_pair.specs.Pair.{pair_of}
use Rattle.arcstring.proofs.Legs.{legs-step, legs_none, legs_tail, legs_few, length_open_legs}
use Rattle.arcstring_tally.specs.Pairs.{pairs_between, pairs_within, kept_marks}
use Rattle.arcstring_visit.specs.Visit.{most_pairs, row_pairs, row_start, visits_from}
use Rattle.arcstring_tally.proofs.Tallies.{kept_bound}

-- ---- one more: with the leg at a position, as the code has it

module _ (margin : Float) (v : List Float) (n : ℕ) (whole : length v ≡ 3 * n) where
  pub row_next : (a x : Leg) (p : Pair) (k to : ℕ) → k < to → to ≤ n → x ≡ leg_at v n k → p ≡ pair_of margin a x → row_pairs margin a v k to
      ≡ (p ∷ []) ++ row_pairs margin a v (k + 1) to
  unfolding row_pairs
  row_next a x p k to h l hx hp =
      ap (map (pair_of margin a)) (legs-step v n whole k to h l) ∙ ap (λ (q : Pair). q ∷ map (pair_of margin a) (legs_from v (k + 1) to))
      (sym (hp ∙ ap (pair_of margin a) hx))

  pub between_next : (x : Leg) (b : List Float) (lb i to : ℕ) → i < to → to ≤ n → x ≡ leg_at v n i
      → pairs_between margin (legs_from v i to) (legs_from b 0 lb)
      ≡ row_pairs margin x b 0 lb ++ pairs_between margin (legs_from v (i + 1) to) (legs_from b 0 lb)
  unfolding pairs_between row_pairs
  between_next x b lb i to h l hx =
      let bs = legs_from b 0 lb in
      ap (λ (ls : List Leg). pairs_between margin ls bs) (legs-step v n whole i to h l)
      ∙ ap (λ (y : Leg). map (pair_of margin y) bs ++ pairs_between margin (legs_from v (i + 1) to) bs) (sym hx)

  pub within-next : (x : Leg) (i to : ℕ) → i < to → to ≤ n → x ≡ leg_at v n i
      → pairs_within margin (legs_from v i to) ≡ row_pairs margin x v (i + 2) to ++ pairs_within margin (legs_from v (i + 1) to)
  unfolding pairs_within row_pairs
  within-next x i to h l hx =
      let e : i + 1 + 1 ≡ i + 2 = omega arith in
      ap (pairs_within margin) (legs-step v n whole i to h l) ∙ rw (← hx, legs_tail v (i + 1) to, e)

-- ---- no more

pub row_none : (margin : Float) (a : Leg) (v : List Float) (from to : ℕ) → to ≤ from → row_pairs margin a v from to ≡ []
unfolding row_pairs
row_none margin a v from to h = ap (map (pair_of margin a)) (legs_none v from to h)

pub between_none : (margin : Float) (v : List Float) (bs : List Leg) (i to : ℕ) → to ≤ i → pairs_between margin (legs_from v i to) bs ≡ []
unfolding pairs_between
between_none margin v bs i to h = ap (λ (ls : List Leg). pairs_between margin ls bs) (legs_none v i to h)

pub within_none : (margin : Float) (v : List Float) (i to : ℕ) → to ≤ i → pairs_within margin (legs_from v i to) ≡ []
unfolding pairs_within
within_none margin v i to h = ap (pairs_within margin) (legs_none v i to h)

-- ---- how many

pub length_between : (margin : Float) (ls bs : List Leg) → length (pairs_between margin ls bs) ≡ length ls * length bs
unfolding pairs_between
length_between margin [] bs = sym (zero-mul (length bs))
length_between margin (a ∷ ls) bs =
    let row = length-map bs (pair_of margin a) in
    omega (arith, length-append (map (pair_of margin a) bs) (pairs_between margin ls bs), row, length_between margin ls bs, suc-mul (length ls) (length bs))

square_step : (j : ℕ) → suc j * 2 + suc j * j ≡ suc (suc j) * suc j
square_step j = omega (arith, mul_comm (suc (suc j)) (suc j), mul-suc (suc j) (suc j), mul-suc (suc j) j)

next_square : (k : ℕ) → (k - 1) * 2 + (k - 1) * (k - 2) ≡ k * (k - 1)
next_square zero = refl
next_square (suc zero) = refl
next_square (suc (suc j)) =
    let p : suc (suc j) - 1 ≡ suc j = omega arith in
    let q : suc (suc j) - 2 ≡ j = omega arith in
    rw (p, q) (square_step j)

-- twice as many as the pairs of legs that are not neighbours
length-within : (margin : Float) (ls : List Leg) → length (pairs_within margin ls) * 2 ≡ (length ls - 1) * (length ls - 2)
unfolding pairs_within
length-within margin [] = refl
length-within margin (a ∷ ls) =
    let k = length ls in
    let p : suc k - 1 ≡ k = omega arith in
    let q : suc k - 2 ≡ k - 1 = omega arith in
    let n : length (map (pair_of margin a) (drop 1 ls) ++ pairs_within margin ls) ≡ (k - 1) + length (pairs_within margin ls)
    = length-append (map (pair_of margin a) (drop 1 ls)) (pairs_within margin ls)
    ∙ ap (λ (m : ℕ). m + length (pairs_within margin ls)) (length-map (drop 1 ls) (pair_of margin a) ∙ length-drop 1 ls) in
    rw (p, q) (omega (arith, n, length-within margin ls, next_square k))

-- those of an open string with itself
pub length_self : (margin : Float) (ps : List SphericalPoint) → length (pairs_within margin (legs ps false)) * 2 ≡ (length ps - 2) * (length ps - 3)
length_self margin ps =
    let n = length ps in
    let p : n - 1 - 1 ≡ n - 2 = omega arith in
    let q : n - 1 - 2 ≡ n - 3 = omega arith in
    length-within margin (legs ps false) ∙ ap (λ (m : ℕ). (m - 1) * (m - 2)) (length_open_legs ps) ∙ ap₂ ◌*◌ p q

pub product_small : (i j : ℕ) → i ≤ 1024 → j ≤ 1024 → i * j ≤ most_pairs
product_small i j h l = le_trans (mul-le-mul_right j h) (mul-le-mul_left 1024 l)

pub between_few : (margin : Float) (a b : List Float) (la lb : ℕ) → la ≤ 1024 → lb ≤ 1024
    → length (pairs_between margin (legs_from a 0 la) (legs_from b 0 lb)) ≤ most_pairs
between_few margin a b la lb h l =
    rw (length_between margin (legs_from a 0 la) (legs_from b 0 lb))
    (product_small (length (legs_from a 0 la)) (length (legs_from b 0 lb)) (omega (arith, legs_few a 0 la)) (omega (arith, legs_few b 0 lb)))

pub within_few : (margin : Float) (v : List Float) (to : ℕ) → to ≤ 1024 → length (pairs_within margin (legs_from v 0 to)) ≤ most_pairs
within_few margin v to h =
    let l = length (legs_from v 0 to) in
    let s : l ≤ 1024 = omega (arith, legs_few v 0 to) in
    omega (arith, length-within margin (legs_from v 0 to), product_small (l - 1) (l - 2) (omega arith) (omega arith))

-- the pairs of so many legs with so many keep at most as many points
pub kept_between : (margin : Float) (a b : List Float) (la lb : ℕ) → length (kept_marks (pairs_between margin (legs_from a 0 la) (legs_from b 0 lb))) ≤ la * lb
kept_between margin a b la lb =
    let h : length (legs_from a 0 la) ≤ la = omega (arith, legs_few a 0 la) in
    let l : length (legs_from b 0 lb) ≤ lb = omega (arith, legs_few b 0 lb) in
    let ps = pairs_between margin (legs_from a 0 la) (legs_from b 0 lb) in
    le_trans (kept_bound ps)
    (rw (length_between margin (legs_from a 0 la) (legs_from b 0 lb)) (le_trans (mul-le-mul_right (length (legs_from b 0 lb)) h) (mul-le-mul_left la l)))

-- ---- within one string or between two

module _ (margin : Float) (within : Bool) (a : List Float) (n : ℕ) (whole : length a ≡ 3 * n) (la : ℕ) (short : la ≤ n) (b : List Float) (lb : ℕ) where
  pub visits_next : (x : Leg) (i from : ℕ) → (within ≡ true → (a ≡ b) × (la ≡ lb)) → i < la → x ≡ leg_at a n i → from ≡ row_start within i
      → visits_from margin within a i la b lb ≡ row_pairs margin x b from lb ++ visits_from margin within a (i + 1) la b lb
  unfolding visits_from row_start
  visits_next x i from same h hx hf = go within same hf
    where
      go : (w : Bool) → (w ≡ true → (a ≡ b) × (la ≡ lb)) → from ≡ pick w (i + 2) 0
          → pick w (pairs_within margin (legs_from a i la)) (pairs_between margin (legs_from a i la) (legs_from b 0 lb))
          ≡ row_pairs margin x b from lb ++ pick w (pairs_within margin (legs_from a (i + 1) la))
          (pairs_between margin (legs_from a (i + 1) la) (legs_from b 0 lb))
      go true s e = let t = s refl in rw (e, ← t.0, ← t.1) (within-next margin a n whole x i la h short hx)
      go false s e = rw e (between_next margin a n whole x b lb i la h short hx)

  pub visits_none : (i : ℕ) → la ≤ i → visits_from margin within a i la b lb ≡ []
  unfolding visits_from
  visits_none i h = go within
    where
      go : (w : Bool) → pick w (pairs_within margin (legs_from a i la)) (pairs_between margin (legs_from a i la) (legs_from b 0 lb)) ≡ []
      go true = within_none margin a i la h
      go false = between_none margin a (legs_from b 0 lb) i la h

  pub visits_few : la ≤ 1024 → lb ≤ 1024 → length (visits_from margin within a 0 la b lb) ≤ most_pairs
  unfolding visits_from
  visits_few h l = go within
    where
      go : (w : Bool) → length (pick w (pairs_within margin (legs_from a 0 la)) (pairs_between margin (legs_from a 0 la) (legs_from b 0 lb))) ≤ most_pairs
      go true = within_few margin a la h
      go false = between_few margin a b la lb h l
