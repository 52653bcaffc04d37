-- Midpoints: the checks at each outcome, halving by a product, one midpoint written after the other, and what the call answers and leaves. Assumes nothing.
use mathlib.Core.Path.{◌≡◌, refl, sym, ap, ap₂, ◌∙◌}
use mathlib.Core.Bool.{Bool, true, false, not, ◌&&◌}
use mathlib.Core.List.{List, [], ◌∷◌, ◌++◌, map, map-append}
use Prim.Native.Nat.{ℕ, ◌+◌, ◌-◌, ◌*◌, ◌/◌, ◌≤◌, ◌<◌}
use native.Mathlib.Omega.{arith}
use lib.Dec.{eqb}
use lib.ListN.{length, length-map}
use lib.Seq.{take-add, length-take-le}
use lib.IntN.{pos, negsuc}
use lib.Ieee.{Float, binary64, of_bits, mul, div}
use borrow.Author.Tests.{eq-eqb, ne_eqb, eqb-false}
use Rattle.ieee754.specs.PowerLaws.{power}
use Rattle.ieee754.proofs.Powers.{div_power}
use Rattle.sphericalpoint.specs.declared.SphericalPoint.{SphericalPoint}
use Rattle.sphericalpoint.specs.Vector.{xyz_div}
use Rattle.arcstring_check.specs.declared.check.Refusal.{Refusal}
use Rattle.arcstring_check.specs.Answer.{Answer, refused, answered, number_if, first_of, leaves, refusal_number}
use Rattle.arcstring.specs.Points.{points, flat}
use Rattle.arcstring.specs.Splice.{splice}
use Rattle.arcstring_check.specs.Check.{list_check, room_check}
use Rattle.arcstring.specs.Written.{written_result, written_floats}
use Rattle.arcstring_check.proofs.Answers.{stopped, went_on, first_passes}
use Rattle.arcstring_check.proofs.Checks.{WholeList, few_passes, whole_list, if_none}
use Rattle.arcstring.proofs.Flat.{length-points, length-flat, flat_append}
use Rattle.arcstring.proofs.Moves.{floats}
use Rattle.arcstring.proofs.Splices.{spliced_next, splice_front, splice_nothing}
use Rattle.arcstring.specs.Leg.{Leg, legs, leg_at, legs_from, leg_count}
use Rattle.arcstring.proofs.Legs.{legs-step, legs_none, legs_whole, length-legs}
use Rattle.arcstring_measure.specs.Measure.{two, midpoint, midpoints_check, midpoints}

-- ---- the checks

module _ (v : List Float) (closed : Bool) where
  by_tests_lem : (a b : Bool) → eqb (length v) 0 ≡ a → not closed && eqb (length v / 3) 1 ≡ b → list_check
      (first_of (number_if a 1) (number_if b 2)) v ≡ midpoints_check v closed
  unfolding midpoints_check
  by_tests_lem a b p q = sym (ap₂ (λ (x y : Bool). list_check (first_of (number_if x 1) (number_if y 2)) v) p q)

  pub no_vertex : length v ≡ 0 → list_check 1 v ≡ midpoints_check v closed
  no_vertex h = by_tests_lem true (not closed && eqb (length v / 3) 1) (eq-eqb _ _ h) refl

  pub no_leg : (length v ≡ 0 → ⊥) → not closed && eqb (length v / 3) 1 ≡ true → list_check 2 v ≡ midpoints_check v closed
  no_leg h e = by_tests_lem false true (ne_eqb _ _ h) e

  pub some_leg : (length v ≡ 0 → ⊥) → not closed && eqb (length v / 3) 1 ≡ false → list_check 0 v ≡ midpoints_check v closed
  some_leg h e = by_tests_lem false false (ne_eqb _ _ h) e

  -- accepted vertices are whole triples, and there is one at least
  pub midpoints_whole : midpoints_check v closed ≡ 0 → WholeList v
  unfolding midpoints_check
  midpoints_whole h = whole_list _ v h

  pub midpoints_some : midpoints_check v closed ≡ 0 → 1 ≤ length v / 3
  unfolding midpoints_check
  midpoints_some h =
      let few = few_passes (first_of (number_if (eqb (length v) 0) 1) (number_if (not closed && eqb (length v / 3) 1) 2)) v h in
      let e : length v ≡ 0 → ⊥ = eqb-false (length v) 0 (if_none (eqb (length v) 0) 0 (first_passes _ _ few)) in
      let w = (midpoints_whole h).triples in
      omega arith

-- ---- halving

-- the code's 0.5
abbrev half64 : Float
half64 = of_bits binary64 0x3fe0_0000_0000_0000

half_of_one : half64 ≡ power (negsuc 0)
unfolding of_bits
half_of_one = refl

times_half : (x : Float) → mul binary64 x half64 ≡ div binary64 x two
times_half x = ap (mul binary64 x) half_of_one ∙ sym (div_power binary64 x (pos 1))

pub halved_divided : (a : SphericalPoint)
    → record { x = mul binary64 a.x half64; y = mul binary64 a.y half64; z = mul binary64 a.z half64 } ≡ xyz_div a two
unfolding xyz_div
halved_divided a = rw (times_half a.x, times_half a.y, times_half a.z)

-- ---- one midpoint after the other

-- 2 by its bits
pub two_bits : of_bits binary64 0x4000_0000_0000_0000 ≡ two
unfolding of_bits
two_bits = refl

-- the first k legs and the one at k
legs_split : (v : List Float) (k : ℕ) → legs_from v 0 (k + 1) ≡ legs_from v 0 k ++ legs_from v k (k + 1)
unfolding legs_from
legs_split v k =
    let e : k + 1 - 0 ≡ k + 1 = omega arith in
    let e0 : k - 0 ≡ k = omega arith in
    let e1 : k + 1 - k ≡ 1 = omega arith in
    rw (e, e0, e1) (take-add k 1 (legs (points v) true))

legs_more : (v : List Float) (n k : ℕ) → length v ≡ 3 * n → k < n → legs_from v 0 (k + 1) ≡ legs_from v 0 k ++ (leg_at v n k ∷ [])
legs_more v n k whole h =
    legs_split v k
    ∙ ap (λ (ls : List Leg). legs_from v 0 k ++ ls)
    (legs-step v n whole k (k + 1) (omega arith) (omega arith) ∙ ap (λ (ls : List Leg). leg_at v n k ∷ ls) (legs_none v (k + 1) (k + 1) (omega arith)))

length_written : (v : List Float) (n k : ℕ) → length v ≡ 3 * n → k ≤ n → length (legs_from v 0 k) ≡ k
unfolding legs_from
length_written v n k whole h =
    let e : k - 0 ≡ k = omega arith in
    rw e (length-take-le k (legs (points v) true) (omega (arith, length-legs (points v), length-points n v whole)))

length-midpoints : (ls : List Leg) → length (flat (map midpoint ls)) ≡ 3 * length ls
length-midpoints ls = length-flat (map midpoint ls) ∙ ap (λ (n : ℕ). 3 * n) (length-map ls midpoint)

pub midpoints_none : (v old : List Float) → old ≡ splice old 0 (flat (map midpoint (legs_from v 0 0)))
midpoints_none v old = sym (ap (λ (ls : List Leg). splice old 0 (flat (map midpoint ls))) (legs_none v 0 0 (omega arith)) ∙ splice_nothing old 0)

-- x the leg at k and p its midpoint as the code has them
pub midpoints-step : (v : List Float) (n k : ℕ) (old out out' : List Float) (x : Leg) (p : SphericalPoint) → length v ≡ 3 * n → k < n
    → out ≡ splice old 0 (flat (map midpoint (legs_from v 0 k))) → x ≡ leg_at v n k → p ≡ midpoint x → out' ≡ splice out (3 * k) (floats p)
    → out' ≡ splice old 0 (flat (map midpoint (legs_from v 0 (k + 1))))
midpoints-step v n k old out out' x p whole h before hx hp after =
    let done = map midpoint (legs_from v 0 k) in
    let w : length (flat done) ≡ 3 * k = length-midpoints (legs_from v 0 k) ∙ ap (λ (m : ℕ). 3 * m) (length_written v n k whole (omega arith)) in
    let more : flat (map midpoint (legs_from v 0 (k + 1))) ≡ flat done ++ floats p =
    ap (λ (ls : List Leg). flat (map midpoint ls)) (legs_more v n k whole h)
    ∙ ap flat (map-append midpoint (legs_from v 0 k) _)
    ∙ flat_append done _
    ∙ ap (λ (q : SphericalPoint). flat done ++ flat (q ∷ [])) (sym (hp ∙ ap midpoint hx)) in
    spliced_next old out out' 0 (flat done) (3 * k) (floats p) before after (omega arith) (omega arith) ∙ ap (splice old 0) (sym more)

-- ---- the answer, and the buffer

module _ (v : List Float) (closed : Bool) (old : List Float) where
  -- the answer a, and what the buffer then holds
  abbrev Halves : Answer ℕ → List Float → Type 0
  Halves r out = (r ≡ written_result (midpoints v closed (length old))) × (out ≡ leaves (written_floats (midpoints v closed (length old))) old)

  told_both : (a : Answer (List SphericalPoint)) → a ≡ midpoints v closed (length old) → (out : List Float) → out ≡ leaves (written_floats a) old
      → Halves (written_result a) out
  told_both a r out w = (ap written_result r, w ∙ ap (λ (x : Answer (List SphericalPoint)). leaves (written_floats x) old) r)

  pub refused_midpoints : (e : Refusal) → refusal_number e ≡ midpoints_check v closed → Halves (refused (refusal_number e)) old
  unfolding midpoints
  refused_midpoints e number = told_both (refused (refusal_number e)) (stopped e (midpoints_check v closed) _ number) old refl

  module _ (passed : 0 ≡ midpoints_check v closed) where
    pub accepted_triples : length v ≡ 3 * (length v / 3)
    accepted_triples = (midpoints_whole v closed (sym passed)).triples

    module _ (l : ℕ) (count : l ≡ leg_count (length v / 3) closed) (few : l ≤ length v / 3) where
      all_legs : legs_from v 0 l ≡ legs (points v) closed
      all_legs = ap (legs_from v 0) count ∙ legs_whole v (length v / 3) closed accepted_triples

      count_legs : length (legs (points v) closed) ≡ l
      count_legs = ap length (sym all_legs) ∙ length_written v (length v / 3) l accepted_triples few

      room : room_check (3 * l) (length old) ≡ room_check (3 * length (legs (points v) closed)) (length old)
      room = ap (λ (n : ℕ). room_check (3 * n) (length old)) (sym count_legs)

      pub cramped_midpoints : (e : Refusal) → refusal_number e ≡ room_check (3 * l) (length old) → Halves (refused (refusal_number e)) old
      unfolding midpoints
      cramped_midpoints e number =
          told_both (refused (refusal_number e))
          (stopped e (room_check (3 * length (legs (points v) closed)) (length old)) _ (number ∙ room) ∙ went_on (midpoints_check v closed) _ passed) old refl

      pub written_midpoints : (out : List Float) → 0 ≡ room_check (3 * l) (length old) → out ≡ splice old 0 (flat (map midpoint (legs_from v 0 l)))
          → Halves (answered l) out
      unfolding midpoints
      written_midpoints out enough w =
          let ms = map midpoint (legs (points v) closed) in
          let r : answered ms ≡ midpoints v closed (length old) =
          went_on (room_check (3 * length (legs (points v) closed)) (length old)) (answered ms) (enough ∙ room) ∙ went_on (midpoints_check v closed) _ passed in
          let m : length ms ≡ l = length-map (legs (points v) closed) midpoint ∙ count_legs in
          let both = told_both (answered ms) r out
          (w ∙ ap (λ (ls : List Leg). splice old 0 (flat (map midpoint ls))) all_legs ∙ splice_front old (length (flat ms)) (flat ms) refl) in
          (ap answered (sym m) ∙ both.0, both.1)
