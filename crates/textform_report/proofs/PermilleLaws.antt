-- Permille is the nearest whole number, the larger of two that are as near, 0 without pairs, and at most 1,000, as `specs/PermilleLaws.antt` has it. Assumes
-- nothing.
use mathlib.Core.Path.{◌≡◌, refl, sym, subst}
use mathlib.Core.Bool.{Bool, true, false}
use Prim.Native.Nat.{ℕ, zero, suc, ◌+◌, ◌*◌, ◌/◌, ◌%◌, ◌≤◌, ◌<◌}
use native.Mathlib.Nat.{le_antisymm, le_of_lt, lt_irrefl, mul-le-mul_right, mul_left_comm, suc-mul, mod-lt, div-add-mod', div-lt_iff_lt-mul}
use native.Mathlib.Omega.{arith}
use lib.Dec.{ltb}
use borrow.Author.Tests.{ltb-true, ltb-false}
use Rattle.arcstring_tally.specs.declared.counts.Counts.{Counts}
use Rattle.same_crossings.specs.CountLaws.{sum_of_counts}
use Rattle.textform_report.specs.Permille.{nearest_quotient, permille}
use Rattle.textform_report.proofs.Quotients.{half_more, quotient_by_none, quotient_by_some}
use Rattle.textform_report.specs.PermilleLaws.{distance, NearestHalfUp, QuotientIsNearest, NearestIsOne, PermilleIsNearest, PermilleOfNone}
use Rattle.textform_report.specs.PermilleLaws.{PermilleAtMost, KnownPermilles}

-- ---- some known ones

pub known_permilles : KnownPermilles
unfolding nearest_quotient
known_permilles = refl

-- ---- it is the nearest

-- where q stands, for x = q times d: at most half of d above n, and less than half of d below it
module _ (n d x : ℕ) where
  abbrev Close : Type 0
  Close = (2 * x ≤ 2 * n + d) × (2 * n + d < 2 * x + 2 * d)

  module _ (close : Close) where
    at_most_half : 2 * distance x n ≤ d
    at_most_half = omega arith

    -- a number that is d or more away is not nearer, and if it is above, it is farther
    below_not_nearer : (y : ℕ) → y + d ≤ x → distance x n ≤ distance y n
    below_not_nearer y h = omega arith

    above_farther : (y : ℕ) → x + d ≤ y → distance x n < distance y n
    above_farther y h = omega arith

quotient_close : (n d : ℕ) → 1 ≤ d → Close n d (half_more n d / (2 * d) * d)
quotient_close n d h =
    let q = half_more n d / (2 * d) in
    let below = mod-lt (half_more n d) {m = 2 * d} (omega arith) in
    close (q * (2 * d)) (q * d) (half_more n d % (2 * d)) (div-add-mod' (half_more n d) (2 * d)) below (mul_left_comm q 2 d)
  where
    close : (big once rest : ℕ) → big + rest ≡ half_more n d → rest < 2 * d → big ≡ 2 * once → Close n d once
    close big once rest e l t = (omega arith, omega arith)

-- another number's product is d or more away
product_away : (m q d : ℕ) → m < q → m * d + d ≤ q * d
product_away m q d h = subst (λ (x : ℕ). x ≤ q * d) (suc-mul m d) (mul-le-mul_right d h)

module _ (n d q m : ℕ) (close : Close n d (q * d)) where
  larger_farther : q < m → distance (q * d) n < distance (m * d) n
  larger_farther h = above_farther n d (q * d) close (m * d) (product_away q m d h)

  not_nearer : distance (q * d) n ≤ distance (m * d) n
  not_nearer = by_tests_lem (ltb m q) (ltb q m) refl refl
    where
      by_tests_lem : (t u : Bool) → ltb m q ≡ t → ltb q m ≡ u → distance (q * d) n ≤ distance (m * d) n
      by_tests_lem true u e f = below_not_nearer n d (q * d) close (m * d) (product_away m q d (ltb-true m q e))
      by_tests_lem false true e f = le_of_lt (larger_farther (ltb-true q m f))
      by_tests_lem false false e f =
          let same = le_antisymm (ltb-false m q e) (ltb-false q m f) in
          subst (λ (k : ℕ). distance (q * d) n ≤ distance (k * d) n) same (omega arith)

  as_near_not_larger : distance (m * d) n ≡ distance (q * d) n → m ≤ q
  as_near_not_larger same = by_test (ltb q m) refl
    where
      by_test : (t : Bool) → ltb q m ≡ t → m ≤ q
      by_test true e = absurd (lt_irrefl _ (subst (λ (x : ℕ). distance (q * d) n < x) same (larger_farther (ltb-true q m e))))
      by_test false e = ltb-false q m e

close_is_nearest : (n d q : ℕ) → Close n d (q * d) → NearestHalfUp n d q
close_is_nearest n d q close = record {
  half = at_most_half n d (q * d) close;
  nearest = λ m. not_nearer n d q m close;
  upward = λ m. as_near_not_larger n d q m close;
}

pub quotient_is_nearest : QuotientIsNearest
quotient_is_nearest n d h =
    subst (NearestHalfUp n d) (sym (quotient_by_some n d (λ e. omega arith))) (close_is_nearest n d (half_more n d / (2 * d)) (quotient_close n d h))

pub nearest_is_one : NearestIsOne
nearest_is_one n d q r h a b =
    let same = le_antisymm (a.nearest r) (b.nearest q) in
    le_antisymm (b.upward q same) (a.upward r (sym same))

-- ---- permille

pub permille_is_nearest : PermilleIsNearest
unfolding permille
permille_is_nearest c h = quotient_is_nearest (1000 * c.clean) (sum_of_counts c) h

-- as the code takes it apart
module _ (c : Counts) where
  pub none_to_divide : sum_of_counts c ≡ 0 → 0 ≡ permille c
  unfolding permille
  none_to_divide h = sym (quotient_by_none (1000 * c.clean) (sum_of_counts c) h)

  pub some_to_divide : (sum_of_counts c ≡ 0 → ⊥) → half_more (1000 * c.clean) (sum_of_counts c) / (2 * sum_of_counts c) ≡ permille c
  unfolding permille
  some_to_divide h = sym (quotient_by_some (1000 * c.clean) (sum_of_counts c) h)

pub permille_of_none : PermilleOfNone
permille_of_none c h = sym (none_to_divide c h)

-- a part of the pairs, per thousand
quotient_at_most : (part all : ℕ) → part ≤ all → nearest_quotient (1000 * part) all ≤ 1000
quotient_at_most part zero h = subst (λ (q : ℕ). q ≤ 1000) (sym (quotient_by_none (1000 * part) 0 refl)) (omega arith)
quotient_at_most part (suc more) h =
    let all = suc more in
    let below = (div-lt_iff_lt-mul {k = 2 * all} {x = half_more (1000 * part) all} {y = 1001} (omega arith)).1 (omega arith) in
    subst (λ (q : ℕ). q ≤ 1000) (sym (quotient_by_some (1000 * part) all (λ e. omega arith))) (omega (arith, below))

pub permille_at_most : PermilleAtMost
unfolding permille
permille_at_most c = quotient_at_most c.clean (sum_of_counts c) (omega arith)
