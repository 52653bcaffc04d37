-- The rule of the table of roots, by one test that is computed at each entry. Assumes nothing.
use mathlib.Core.List.{List, []}
use mathlib.Core.Logic.{inl, inr}
use mathlib.Core.Bool.{Bool, true, ◌&&◌}
use mathlib.Core.Path.{◌≡◌, subst}
use Prim.Native.Nat.{ℕ, zero, suc, ◌+◌, ◌-◌, ◌*◌, ◌/◌, ◌%◌, ◌≤◌, ◌<◌}
use native.Mathlib.Nat.{le_of_suc-le-suc, not-suc-le-zero, eq-or-lt_of_le}
use native.Mathlib.Omega.{arith}
use lib.Dec.{T, leb, ltb, leb→le, ltb→lt}
use lib.ListN.{get_or}
use lib.Ieee.Fits.{and_l, and_r}
use Rattle.square_root.specs.RootStep.{WholeRoot}

abbrev pub all_below : (ℕ → Bool) → ℕ → Bool
all_below f zero = true
all_below f (suc n) = f n && all_below f n

at : (f : ℕ → Bool) (n : ℕ) → T (all_below f n) → (i : ℕ) → i < n → T (f i)
at f zero t i h = absurd (not-suc-le-zero h)
at f (suc n) t i h = elim (eq-or-lt_of_le (le_of_suc-le-suc h)) [
  | inl e ↦ rw e (and_l (f n) (all_below f n) t)
  | inr l ↦ at f n (and_r (f n) (all_below f n) t) i l
]

-- the entry i of a table in rows of 8
abbrev pub entry : List (List ℕ) → ℕ → ℕ
entry rows i = get_or (get_or rows (i / 8) []) (i % 8) 0

abbrev is_root : ℕ → ℕ → Bool
is_root n r = leb (r * r) n && ltb n ((r + 1) * (r + 1))

is_root_lem : (n r : ℕ) → T (is_root n r) → WholeRoot n r
is_root_lem n r t = record {
  square_le = leb→le (r * r) n (and_l (leb (r * r) n) (ltb n ((r + 1) * (r + 1))) t);
  next_above = ltb→lt n ((r + 1) * (r + 1)) (and_r (leb (r * r) n) (ltb n ((r + 1) * (r + 1))) t);
}

pub table_rule : (rows : List (List ℕ)) → T (all_below (λ (i : ℕ). is_root (128 * (i + 32)) (entry rows i)) 96) → (n : ℕ) → 32 ≤ n → n < 128
    → WholeRoot (128 * n) (entry rows (n - 32))
table_rule rows t n lo hi = subst (λ (x : ℕ). WholeRoot (128 * x) (entry rows (n - 32))) (back n lo)
    (is_root_lem (128 * (n - 32 + 32)) (entry rows (n - 32)) (at (λ (i : ℕ). is_root (128 * (i + 32)) (entry rows i)) 96 t (n - 32) (omega arith)))
  where
    back : (n : ℕ) → 32 ≤ n → n - 32 + 32 ≡ n
    back n lo = omega arith
