-- What a chain over the positions 0 to n - 1 answers, as a definition says it by recursion on the list whose elements stand there: `find` of the first element
-- that passes a test, `any` and `all`. One law for every test, of points and of legs. Assumes nothing.
use Rattle.std.specs.Prelude as Std
use Rattle.std.specs.Prelude.{Some, None}
use Rattle.std.specs.Bool.{MatchBool}
use Rattle.std.specs.Option.{MatchOption}
use Rattle.std.specs.List.{range_with_len, HoldsAt, AllWithin}
use Rattle.std.proofs.lemmas.List.FromFn.{length-range_with_len, get_or-range_with_len}
use mathlib.Core.Path.{◌≡◌, refl, sym, ap, ◌∙◌}
use mathlib.Core.Bool.{Bool, true, false, not}
use mathlib.Core.List.{List, [], ◌∷◌}
use mathlib.Core.Option.{Option}
use Prim.Native.Nat.{ℕ, zero, suc, ◌+◌, ◌<◌, ◌≤◌}
use native.Mathlib.Nat.{zero-add}
use native.Mathlib.Numerals.{add-one}
use native.Mathlib.Omega.{arith}
use lib.ListN.{length, get_or}
use Rattle.std.proofs.Common.{subst, ◌⊎◌, inl, inr}
use Rattle.arcstring_check.specs.Answer.{option_of}
use Rattle.arcstring_along.proofs.FirstFound.{from, from_start, FindsFirst, found_here, found_later, found_none}

-- ---- of the numbers 0 to n - 1, by what std says of their list

at_itself : (n k : ℕ) → k < n → get_or (range_with_len 0 n) k 0 ≡ k
at_itself n k h = get_or-range_with_len 0 n k 0 h ∙ zero-add k

pub any_in_range : (n : ℕ) (Yes No : ℕ → Type 0) (r : Bool)
    → MatchBool r ((k : ℕ) × (k < length (range_with_len 0 n)) × HoldsAt Yes (range_with_len 0 n) k)
    (AllWithin No (range_with_len 0 n) 0 (length (range_with_len 0 n)))
    → MatchBool r ((k : ℕ) × (k < n) × Yes k) ((k : ℕ) → k < n → No k)
any_in_range n Yes No true h =
    let l : h.0 < n = omega (arith, length-range_with_len 0 n, h.1) in (h.0, l, subst Yes (at_itself n h.0 l) (h.2 0))
any_in_range n Yes No false h = λ k l. subst No (at_itself n k l) (h k 0 (omega arith) (omega (arith, length-range_with_len 0 n)))

pub all_in_range : (n : ℕ) (Yes No : ℕ → Type 0) (r : Bool)
    → MatchBool r (AllWithin Yes (range_with_len 0 n) 0 (length (range_with_len 0 n)))
    ((k : ℕ) × (k < length (range_with_len 0 n)) × HoldsAt No (range_with_len 0 n) k)
    → MatchBool r ((k : ℕ) → k < n → Yes k) ((k : ℕ) × (k < n) × No k)
all_in_range n Yes No true h = λ k l. subst Yes (at_itself n k l) (h k 0 (omega arith) (omega (arith, length-range_with_len 0 n)))
all_in_range n Yes No false h =
    let l : h.0 < n = omega (arith, length-range_with_len 0 n, h.1) in (h.0, l, subst No (at_itself n h.0 l) (h.2 0))

-- what stops at the first element of which a test says t, and answers t then, and else the other
pub record Stops {A : Type 0} (t : Bool) (test : A → Bool) (f : List A → Bool) : Type 0 where
  pub at-end : f [] ≡ not t
  pub here : (x : A) (xs : List A) → test x ≡ t → f (x ∷ xs) ≡ t
  pub later : (x : A) (xs : List A) → test x ≡ not t → f (x ∷ xs) ≡ f xs

one_of : (b t : Bool) → (b ≡ t) ⊎ (b ≡ not t)
one_of true true = inl refl
one_of true false = inr refl
one_of false true = inr refl
one_of false false = inl refl

-- ---- the elements by position, n of them: what is left from k on begins with the one at k

module _ {A : Type 0} {test : A → Bool} (item : ℕ → A) (part : ℕ → List A) (n : ℕ)
    (begins : (k : ℕ) → k < n → part k ≡ item k ∷ part (k + 1)) (ends : part n ≡ []) where
  module _ {first : List A → Option ℕ} (finds : FindsFirst test first) where
    passed : (i : ℕ) → i ≤ n → ((k : ℕ) → 0 ≤ k → k < i → test (item k) ≡ false) → from i (first (part i)) ≡ first (part 0)
    passed zero l none_yet = from_start (first (part 0))
    passed (suc i) l none_yet =
        rw (← add-one i)
        (found_later finds i (part i) false (begins i (omega arith)) (sym (none_yet i (omega arith) (omega arith))) refl
        ∙ passed i (omega arith) (λ k z h. none_yet k z (omega arith)))

    pub find_by_position : (r : Std.Option ℕ)
        → MatchOption r ((k : ℕ) → 0 ≤ k → k < n → test (item k) ≡ false)
        (λ i. (0 ≤ i) × (i < n) × (test (item i) ≡ true) × ((k : ℕ) → 0 ≤ k → k < i → test (item k) ≡ false))
        → option_of r ≡ first (part 0)
    find_by_position None h = found_none finds n (part n) ends ∙ passed n (omega arith) h
    find_by_position (Some i) h = found_here finds i (part i) true (begins i h.1) (sym h.2) refl ∙ passed i (omega arith) h.3

  module _ {t : Bool} {f : List A → Bool} (stops : Stops t test f) where
    -- where what is left stops it, the whole does
    stopped_before : (i : ℕ) → i ≤ n → f (part i) ≡ t → f (part 0) ≡ t
    stopped_before zero l h = h
    stopped_before (suc i) l h =
        let g : f (part (i + 1)) ≡ t = rw add-one h in
        let e : f (item i ∷ part (i + 1)) ≡ t = elim (one_of (test (item i)) t) [
          | inl same ↦ stops.here (item i) (part (i + 1)) same
          | inr other ↦ stops.later (item i) (part (i + 1)) other ∙ g
        ] in
        stopped_before i (omega arith) (ap f (begins i (omega arith)) ∙ e)

    stops_by_position : (k : ℕ) → k < n → test (item k) ≡ t → f (part 0) ≡ t
    stops_by_position k l h = stopped_before k (omega arith) (ap f (begins k l) ∙ stops.here (item k) (part (k + 1)) h)

    goes_on : (i : ℕ) → i ≤ n → ((k : ℕ) → k < n → test (item k) ≡ not t) → f (part i) ≡ f (part 0)
    goes_on zero l h = refl
    goes_on (suc i) l h =
        rw (← add-one i) (sym (ap f (begins i (omega arith)) ∙ stops.later (item i) (part (i + 1)) (h i (omega arith))) ∙ goes_on i (omega arith) h)

    ends_by_position : ((k : ℕ) → k < n → test (item k) ≡ not t) → f (part 0) ≡ not t
    ends_by_position h = sym (goes_on n (omega arith) h) ∙ ap f ends ∙ stops.at-end

  pub any_by_position : {some : List A → Bool} → Stops true test some → (r : Bool)
      → MatchBool r ((k : ℕ) × (k < n) × (test (item k) ≡ true)) ((k : ℕ) → k < n → test (item k) ≡ false) → r ≡ some (part 0)
  any_by_position stops true h = sym (stops_by_position stops h.0 h.1 h.2)
  any_by_position stops false h = sym (ends_by_position stops h)

  pub all_by_position : {every : List A → Bool} → Stops false test every → (r : Bool)
      → MatchBool r ((k : ℕ) → k < n → test (item k) ≡ true) ((k : ℕ) × (k < n) × (test (item k) ≡ false)) → r ≡ every (part 0)
  all_by_position stops true h = sym (ends_by_position stops h)
  all_by_position stops false h = sym (stops_by_position stops h.0 h.1 h.2)
