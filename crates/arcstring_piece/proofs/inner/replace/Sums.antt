-- Laws of sums of counts: lists after one another, one count more, and none that is empty. Assumes nothing.
use Rattle.std.specs.Prelude as Std
use mathlib.Core.Path.{◌≡◌, refl, sym, ap, ◌∙◌}
use mathlib.Core.Bool.{true, not, false≢true, and-eq-true_iff}
use mathlib.Core.List.{List, [], ◌∷◌, ◌++◌}
use Prim.Native.Nat.{ℕ, zero, suc, ◌+◌, ◌≤◌, ◌<◌}
use native.Mathlib.Numerals.{add-one}
use native.Mathlib.Omega.{arith}
use lib.Dec.{eqb}
use lib.ListN.{length, get_or, take, drop, take-append-drop}
use lib.Seq.{length-take-le, take-suc, take-take, get_or-take}
use borrow.Author.Tests.{ne_eqb}
use Rattle.std.proofs.lemmas.List.Sums.{sum_by-cons}
use Rattle.arcstring_piece.specs.Pieces.{sum, all_some}

-- ---- sums

-- as the library's `sum` has it, which adds up from the left
pub sum_is : (l : List ℕ) → Std.sum l ≡ sum l
sum_is [] = refl
sum_is (n ∷ l) = sum_by-cons (λ (k : ℕ). k) n l ∙ ap (λ (k : ℕ). n + k) (sum_is l)

pub sum-append : (a b : List ℕ) → sum (a ++ b) ≡ sum a + sum b
sum-append [] b = omega arith
sum-append (n ∷ a) b = omega (arith, sum-append a b)

-- a part of the counts, and all of them
pub sum_parts : (k : ℕ) (l : List ℕ) → sum l ≡ sum (take k l) + sum (drop k l)
sum_parts k l = ap sum (sym (take-append-drop k l)) ∙ sum-append (take k l) (drop k l)

-- one count more
pub sum-next : (l : List ℕ) (i : ℕ) → i < length l → sum (take (i + 1) l) ≡ sum (take i l) + get_or l i 0
sum-next l i h = rw (add-one, take-suc l i 0 h) (sum-append (take i l) (get_or l i 0 ∷ []) ∙ omega arith)

-- of the first m counts: those before place k, the one there, and those after it
pub sum_split : (l : List ℕ) (m k : ℕ) → k < m → m ≤ length l → sum (take m l) ≡ sum (take k l) + get_or l k 0 + sum (drop (k + 1) (take m l))
sum_split l m k h room =
    sum_parts (k + 1) (take m l) ∙ omega (arith, ap sum (take-take (k + 1) m l (omega arith)), sum-next l k (omega arith))

-- ---- none empty

some_count : (n : ℕ) → not (eqb n 0) ≡ true → 1 ≤ n
some_count zero h = absurd (false≢true h)
some_count (suc n) h = omega arith

count_some : (n : ℕ) → 1 ≤ n → not (eqb n 0) ≡ true
count_some n h = ap not (ne_eqb n 0 (λ (e : n ≡ 0). omega arith))

-- the first, and the others
some_first : (n : ℕ) (l : List ℕ) → all_some (n ∷ l) ≡ true → (1 ≤ n) × (all_some l ≡ true)
some_first n l h = let both = (and-eq-true_iff (not (eqb n 0)) (all_some l)).0 h in (some_count n both.0, both.1)

pub some_cons : (n : ℕ) (l : List ℕ) → 1 ≤ n → all_some l ≡ true → all_some (n ∷ l) ≡ true
some_cons n l h q = (and-eq-true_iff (not (eqb n 0)) (all_some l)).1 (count_some n h, q)

pub some_append : (a b : List ℕ) → all_some a ≡ true → all_some b ≡ true → all_some (a ++ b) ≡ true
some_append [] b p q = q
some_append (n ∷ a) b p q = some_cons n (a ++ b) (some_first n a p).0 (some_append a b (some_first n a p).1 q)

pub some_take : (k : ℕ) (l : List ℕ) → all_some l ≡ true → all_some (take k l) ≡ true
some_take zero l h = refl
some_take (suc k) [] h = refl
some_take (suc k) (n ∷ l) h = some_cons n (take k l) (some_first n l h).0 (some_take k l (some_first n l h).1)

pub some_drop : (k : ℕ) (l : List ℕ) → all_some l ≡ true → all_some (drop k l) ≡ true
some_drop zero l h = h
some_drop (suc k) [] h = refl
some_drop (suc k) (n ∷ l) h = some_drop k l (some_first n l h).1

-- so many counts, none empty, are so many at least together
pub some_long : (l : List ℕ) → all_some l ≡ true → length l ≤ sum l
some_long [] h = omega arith
some_long (n ∷ l) h = omega (arith, some_long l (some_first n l h).1, (some_first n l h).0)

some_at : (l : List ℕ) (k : ℕ) → k < length l → all_some l ≡ true → 1 ≤ get_or l k 0
some_at [] k h s = absurd (omega arith)
some_at (n ∷ l) zero h s = (some_first n l s).0
some_at (n ∷ l) (suc k) h s = some_at l k (omega arith) (some_first n l s).1

-- and those among the first m
pub some_among : (l : List ℕ) (m k : ℕ) → k < m → m ≤ length l → all_some (take m l) ≡ true → 1 ≤ get_or l k 0
some_among l m k h room s = rw (get_or-take m l k 0 h) at (some_at (take m l) k (omega (arith, length-take-le m l room)) s)
