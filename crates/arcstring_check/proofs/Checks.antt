-- The checks at each outcome of their tests, and what an accepted list is. Assumes nothing.
use Rattle.std.specs.Prelude.{Result, Err}
use mathlib.Core.Path.{◌≡◌, refl, sym, ap, ◌∙◌}
use mathlib.Core.Bool.{Bool, true, false, not, ◌&&◌, and-true, and_assoc, not-not}
use mathlib.Core.List.{List}
use Prim.Native.Nat.{ℕ, suc, ◌+◌, ◌*◌, ◌/◌, ◌%◌, ◌≤◌, ◌<◌}
use native.Mathlib.Omega.{arith}
use native.Mathlib.Numerals.{add-one}
use lib.Dec.{T, ltb, eqb}
use lib.ListN.{length, get_or, drop, drop_of_length-le}
use lib.Seq.{drop-cons}
use lib.IntN.{ℤ, pos}
use lib.Ieee.{Float, nan, inf, fin, binary64, of_bits, div, lt, le}
use lib.Ieee.Fits.{and_l, and_r}
use Rattle.ieee754.specs.Bound.{AtMost}
use Rattle.ieee754.proofs.Tests.{never}
use Rattle.ieee754.specs.Value.{zero_float}
use Rattle.ieee754.proofs.Order.{le_not_lt}
use Rattle.ieee754.proofs.Bounds.{between_at_most, at_most_between}
use Rattle.sphericalpoint.specs.declared.SphericalPoint.{SphericalPoint}
use borrow.Author.Tests.{eqb-true, ltb-false, eq-eqb, ne_eqb, lt-ltb, le-ltb, eqb-false}
use Rattle.arcstring_check.specs.declared.check.Refusal.{Refusal}
use Rattle.arcstring_check.specs.Answer.{number_if, first_of, refusal_number}
use Rattle.arcstring_check.specs.Check.{check_number, in_range, all_in_range, list_check, stored_check, buoys_check, string_check, build_check, building_check}
use Rattle.arcstring_check.specs.Check.{most_points, points_check, point_check, margin_check}
use Rattle.arcstring_check.proofs.Answers.{first_passes, second_passes, first_alone, first_refused}

-- ---- a coordinate: in range is at most 1 in size

pub range_bound : (x : Float) → T (in_range x) → AtMost 0 x
unfolding in_range
range_bound x h =
    let p = le (fin true 1 (pos 0)) x in
    let q = le x (fin false 1 (pos 0)) in
    between_at_most x (and_l p q h) (and_r p q h)

pub true_of : (b : Bool) → T b → b ≡ true
true_of true h = refl
true_of false h = absurd h

pub bound_range : (x : Float) → AtMost 0 x → in_range x ≡ true
unfolding in_range
bound_range x h =
    let b = at_most_between x h in rw (true_of (le (fin true 1 (pos 0)) x) b.0, true_of (le x (fin false 1 (pos 0))) b.1)

-- ---- the walk over a list's coordinates

step : (v : List Float) (i : ℕ) → i < length v → all_in_range (drop i v) ≡ in_range (get_or v i nan) && all_in_range (drop (i + 1) v)
unfolding all_in_range
step v i h = rw (add-one, drop-cons v i nan)

-- what was found so far, with what the rest says, decides for the whole: one coordinate further, and past the last
module _ (v : List Float) (i : ℕ) (all whole : Bool) (before : all && all_in_range (drop i v) ≡ whole) where
  pub range_next : (found : Bool) → i < length v → found ≡ in_range (get_or v i nan) → all && found && all_in_range (drop (i + 1) v) ≡ whole
  range_next found h e =
      and_assoc all found (all_in_range (drop (i + 1) v))
      ∙ ap (λ (b : Bool). all && (b && all_in_range (drop (i + 1) v))) e
      ∙ ap (λ (b : Bool). all && b) (sym (step v i h))
      ∙ before

  pub range_end : length v ≤ i → all ≡ whole
  unfolding all_in_range
  range_end h = sym (and-true all) ∙ ap (λ (w : List Float). all && all_in_range w) (sym (drop_of_length-le v h)) ∙ before

-- ---- the checks of a list

module _ (few : ℕ) (v : List Float) where
  by_tests_lem : (a b c : Bool) → eqb (length v % 3) 0 ≡ a → ltb 1024 (length v / 3) ≡ b → all_in_range v ≡ c
      → first_of (number_if (not a) 1) (first_of few (first_of (number_if b 3) (number_if (not c) 4))) ≡ list_check few v
  unfolding list_check
  by_tests_lem a b c p q r = sym (λ i. first_of (number_if (not (p i)) 1) (first_of few (first_of (number_if (q i) 3) (number_if (not (r i)) 4))))

  pub no_triples : (length v % 3 ≡ 0 → ⊥) → 1 ≡ list_check few v
  no_triples h = by_tests_lem false (ltb 1024 (length v / 3)) (all_in_range v) (ne_eqb _ _ h) refl refl

  pub too_many : length v % 3 ≡ 0 → few ≡ 0 → 1024 < length v / 3 → 3 ≡ list_check few v
  too_many h e l =
      sym (ap (λ (m : ℕ). first_of m (first_of 3 (number_if (not (all_in_range v)) 4))) e)
      ∙ by_tests_lem true true (all_in_range v) (eq-eqb _ _ h) (lt-ltb _ _ l) refl

  pub by_range : length v % 3 ≡ 0 → few ≡ 0 → length v / 3 ≤ 1024 → (c : Bool) → all_in_range v ≡ c → number_if (not c) 4 ≡ list_check few v
  by_range h e l c r =
      sym (ap (λ (m : ℕ). first_of m (number_if (not c) 4)) e)
      ∙ by_tests_lem true false c (eq-eqb _ _ h) (le-ltb _ _ l) r

pub few_refused : (k : Result Unit Refusal) (e : Refusal) (v : List Float) → length v % 3 ≡ 0 → k ≡ Err e → refusal_number e ≡ list_check (check_number k) v
few_refused k e v h g = first_refused k e _ g ∙ by_tests_lem (check_number k) v true (ltb 1024 (length v / 3)) (all_in_range v) (eq-eqb _ _ h) refl refl

module _ (v : List Float) where
  pub stored_empty : length v ≡ 0 → list_check 1 v ≡ stored_check v
  unfolding stored_check
  stored_empty h = sym (ap (λ (b : Bool). list_check (number_if b 1) v) (eq-eqb _ _ h))

  pub stored-not_empty : (length v ≡ 0 → ⊥) → list_check 0 v ≡ stored_check v
  unfolding stored_check
  stored-not_empty h = sym (ap (λ (b : Bool). list_check (number_if b 1) v) (ne_eqb _ _ h))

  pub build_enough : 2 ≤ length v / 3 → list_check 0 v ≡ build_check v
  unfolding build_check
  build_enough h = sym (ap (λ (b : Bool). list_check (number_if b 2) v) (le-ltb _ _ h))

  -- with numbers: `few` by the two tests
  module _ (buoys : List ℕ) where
    by_string-tests : (a b : Bool) → eqb (length v) 0 ≡ a → eqb (length buoys) (length v / 3) ≡ b
        → list_check (first_of (number_if a 1) (number_if (not b) 10)) v ≡ string_check v buoys
    unfolding string_check buoys_check
    by_string-tests a b p q = sym (λ i. list_check (first_of (number_if (p i) 1) (number_if (not (q i)) 10)) v)

    pub string_empty : length v ≡ 0 → list_check 1 v ≡ string_check v buoys
    string_empty h = by_string-tests true (eqb (length buoys) (length v / 3)) (eq-eqb _ _ h) refl

    pub string-not_as_many : (length v ≡ 0 → ⊥) → (length buoys ≡ length v / 3 → ⊥) → list_check 10 v ≡ string_check v buoys
    string-not_as_many h l = by_string-tests false false (ne_eqb _ _ h) (ne_eqb _ _ l)

    pub string_as_many : (length v ≡ 0 → ⊥) → length buoys ≡ length v / 3 → list_check 0 v ≡ string_check v buoys
    string_as_many h l = by_string-tests false true (ne_eqb _ _ h) (eq-eqb _ _ l)

    by_building_tests : (a b : Bool) → eqb (length buoys) (length v / 3) ≡ a → ltb (length v / 3) 2 ≡ b
        → list_check (first_of (number_if (not a) 10) (number_if b 2)) v ≡ building_check v buoys
    unfolding building_check buoys_check
    by_building_tests a b p q = sym (λ i. list_check (first_of (number_if (not (p i)) 10) (number_if (q i) 2)) v)

    pub building_not_as_many : (length buoys ≡ length v / 3 → ⊥) → list_check 10 v ≡ building_check v buoys
    building_not_as_many l = by_building_tests false (ltb (length v / 3) 2) (ne_eqb _ _ l) refl

    pub building_too_few : length buoys ≡ length v / 3 → length v / 3 < 2 → list_check 2 v ≡ building_check v buoys
    building_too_few l h = by_building_tests true true (eq-eqb _ _ l) (lt-ltb _ _ h)

    pub building_enough : length buoys ≡ length v / 3 → 2 ≤ length v / 3 → list_check 0 v ≡ building_check v buoys
    building_enough l h = by_building_tests true false (eq-eqb _ _ l) (le-ltb _ _ h)

    by_points_test : (b : Bool) → eqb (length buoys) (length v / 3) ≡ b → list_check (number_if (not b) 10) v ≡ points_check v buoys
    unfolding points_check buoys_check
    by_points_test b p = sym (λ i. list_check (number_if (not (p i)) 10) v)

    pub points-not_as_many : (length buoys ≡ length v / 3 → ⊥) → list_check 10 v ≡ points_check v buoys
    points-not_as_many l = by_points_test false (ne_eqb _ _ l)

    pub points_as_many : length buoys ≡ length v / 3 → list_check 0 v ≡ points_check v buoys
    points_as_many l = by_points_test true (eq-eqb _ _ l)

-- ---- what an accepted list is

pub if_none : (b : Bool) (n : ℕ) → number_if b (suc n) ≡ 0 → b ≡ false
if_none true n h = absurd (let z : suc n ≡ 0 = h in omega arith)
if_none false n h = refl

pub if_none_not : (b : Bool) (n : ℕ) → number_if (not b) (suc n) ≡ 0 → b ≡ true
if_none_not true n h = refl
if_none_not false n h = absurd (let z : suc n ≡ 0 = h in omega arith)

pub record WholeList (v : List Float) : Type 0 where
  pub triples : length v ≡ 3 * (length v / 3)
  pub at_most : length v / 3 ≤ 1024
  pub in-range : all_in_range v ≡ true

module _ (few : ℕ) (v : List Float) where
  abbrev not_triples : ℕ
  not_triples = number_if (not (eqb (length v % 3) 0)) 1

  abbrev over : ℕ
  over = number_if (ltb 1024 (length v / 3)) 3

  abbrev outside : ℕ
  outside = number_if (not (all_in_range v)) 4

  pub few_passes : list_check few v ≡ 0 → few ≡ 0
  unfolding list_check
  few_passes h = first_passes few (first_of over outside) (second_passes not_triples (first_of few (first_of over outside)) h)

  pub whole_list : list_check few v ≡ 0 → WholeList v
  unfolding list_check
  whole_list h =
      let rest = second_passes few (first_of over outside) (second_passes not_triples (first_of few (first_of over outside)) h) in
      let t : length v % 3 ≡ 0 = eqb-true (length v % 3) 0
      (if_none_not (eqb (length v % 3) 0) 0 (first_passes not_triples (first_of few (first_of over outside)) h)) in
      record {
        triples = omega arith;
        at_most = ltb-false 1024 (length v / 3) (if_none (ltb 1024 (length v / 3)) 2 (first_passes over outside rest));
        in-range = if_none_not (all_in_range v) 3 (second_passes over outside rest);
      }

-- an accepted stored list: whole triples, at least one point, at most 1,024, every coordinate in range
pub stored_whole : (v : List Float) → stored_check v ≡ 0 → WholeList v
unfolding stored_check
stored_whole v h = whole_list (number_if (eqb (length v) 0) 1) v h

pub stored_some : (v : List Float) → stored_check v ≡ 0 → 1 ≤ length v / 3
unfolding stored_check
stored_some v h =
    let e : length v ≡ 0 → ⊥ = eqb-false (length v) 0 (if_none (eqb (length v) 0) 0 (few_passes (number_if (eqb (length v) 0) 1) v h)) in
    let w = (stored_whole v h).triples in
    omega arith

-- ---- an accepted list with its numbers: the list is accepted, and there are as many numbers

module _ (v : List Float) (buoys : List ℕ) where
  none_wrong : buoys_check v buoys ≡ 0 → length buoys ≡ length v / 3
  unfolding buoys_check
  none_wrong h = eqb-true (length buoys) (length v / 3) (if_none_not (eqb (length buoys) (length v / 3)) 9 h)

  right_many : length buoys ≡ length v / 3 → buoys_check v buoys ≡ 0
  unfolding buoys_check
  right_many h = ap (λ (b : Bool). number_if (not b) 10) (eq-eqb (length buoys) (length v / 3) h)

  -- as many numbers: the check of the list alone
  pub string_alone : length buoys ≡ length v / 3 → string_check v buoys ≡ stored_check v
  unfolding string_check stored_check
  string_alone h =
      ap (λ (n : ℕ). list_check (first_of (number_if (eqb (length v) 0) 1) n) v) (right_many h)
      ∙ ap (λ (n : ℕ). list_check n v) (first_alone (number_if (eqb (length v) 0) 1))

  pub building_alone : length buoys ≡ length v / 3 → building_check v buoys ≡ build_check v
  unfolding building_check build_check
  building_alone h = ap (λ (n : ℕ). list_check (first_of n (number_if (ltb (length v / 3) 2) 2)) v) (right_many h)

  module _ (h : string_check v buoys ≡ 0) where
    few_none : first_of (number_if (eqb (length v) 0) 1) (buoys_check v buoys) ≡ 0
    unfolding string_check
    few_none = few_passes (first_of (number_if (eqb (length v) 0) 1) (buoys_check v buoys)) v h

    pub as_many_buoys : length buoys ≡ length v / 3
    as_many_buoys = none_wrong (second_passes (number_if (eqb (length v) 0) 1) (buoys_check v buoys) few_none)

    pub string-stored : stored_check v ≡ 0
    string-stored = sym (string_alone as_many_buoys) ∙ h

  module _ (h : building_check v buoys ≡ 0) where
    pub building_buoys : length buoys ≡ length v / 3
    unfolding building_check
    building_buoys =
        none_wrong (first_passes (buoys_check v buoys) (number_if (ltb (length v / 3) 2) 2)
        (few_passes (first_of (buoys_check v buoys) (number_if (ltb (length v / 3) 2) 2)) v h))

    pub building_passed : build_check v ≡ 0
    building_passed = sym (building_alone building_buoys) ∙ h

  module _ (h : points_check v buoys ≡ 0) where
    pub points_buoys : length buoys ≡ length v / 3
    unfolding points_check
    points_buoys = none_wrong (few_passes (buoys_check v buoys) v h)

    pub points_whole : WholeList v
    unfolding points_check
    points_whole = whole_list (buoys_check v buoys) v h

-- an accepted list to build from has two points at least
pub build_whole : (v : List Float) → build_check v ≡ 0 → WholeList v
unfolding build_check
build_whole v h = whole_list (number_if (ltb (length v / 3) 2) 2) v h

pub build_two : (v : List Float) → build_check v ≡ 0 → 2 ≤ length v / 3
unfolding build_check
build_two v h = ltb-false (length v / 3) 2 (if_none (ltb (length v / 3) 2) 1 (few_passes (number_if (ltb (length v / 3) 2) 2) v h))

-- ---- a single point

pub point_by_range : (p : SphericalPoint) (c : Bool) → in_range p.x && in_range p.y && in_range p.z ≡ c → number_if (not c) 4 ≡ point_check p
unfolding point_check
point_by_range p c h = sym (ap (λ (b : Bool). number_if (not b) 4) h)

-- ---- a margin

-- a finite margin is refused where it is below 0
below : (s : Bool) (m : ℕ) (e : ℤ) → not (le zero_float (fin s m e)) ≡ lt (fin s m e) zero_float
below s m e = ap not (le_not_lt (fin s m e) zero_float tt tt) ∙ not-not (lt (fin s m e) zero_float)

-- from 0 on, and below one over zero, which is the infinity
pub margin_tested : (x : Float) (c : Bool) → le (of_bits binary64 0) x && lt x (div binary64 (of_bits binary64 0x3ff0_0000_0000_0000) (of_bits binary64 0)) ≡ c
    → number_if (not c) 9 ≡ margin_check x
unfolding margin_check of_bits div lt le
margin_tested nan true h = never h
margin_tested nan false h = refl
margin_tested (inf true) true h = never h
margin_tested (inf true) false h = refl
margin_tested (inf false) true h = never h
margin_tested (inf false) false h = refl
margin_tested (fin s m e) c h = ap (λ (b : Bool). number_if b 9) (sym (ap not (sym (and-true (le zero_float (fin s m e))) ∙ h)) ∙ below s m e)

-- ---- the checks see of a list its length, and whether all its coordinates are in range

check_by_parts : (few : ℕ → ℕ) (v w : List Float) → length v ≡ length w → all_in_range v ≡ all_in_range w
    → list_check (few (length v)) v ≡ list_check (few (length w)) w
unfolding list_check
check_by_parts few v w p q =
    λ i. first_of (number_if (not (eqb (p i % 3) 0)) 1)
    (first_of (few (p i)) (first_of (number_if (ltb most_points (p i / 3)) 3) (number_if (not (q i)) 4)))

pub stored_by_parts : (v w : List Float) → length v ≡ length w → all_in_range v ≡ all_in_range w → stored_check v ≡ stored_check w
unfolding stored_check
stored_by_parts = check_by_parts (λ n. number_if (eqb n 0) 1)

pub build_by_parts : (v w : List Float) → length v ≡ length w → all_in_range v ≡ all_in_range w → build_check v ≡ build_check w
unfolding build_check
build_by_parts = check_by_parts (λ n. number_if (ltb (n / 3) 2) 2)
