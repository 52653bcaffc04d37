-- The tower of whole roots, of 7, 14, 27 and 54 digits: that each step is given what it asks for, and that its digits make up the next number. Assumes nothing.
use mathlib.Core.Path.{◌≡◌, sym, ap, ◌∙◌}
use Prim.Native.Nat.{ℕ, ◌+◌, ◌*◌, ◌/◌, ◌%◌, ◌^◌, ◌≤◌, ◌<◌}
use native.Mathlib.Nat.{lt_of_le_of_lt, mod-lt, zero-lt-suc}
use native.Mathlib.Omega.{arith}
use lib.Dec.{lit<, lit≤}
use lib.Pow.{shr-shr}
use Rattle.square_root.specs.RootStep.{WholeRoot, Step}
use Rattle.square_root.proofs.Squares.{square_mono}
use Rattle.square_root.proofs.WholeRoots.{root_ge, root_lt}

-- ---- from the table's root, of 128 * (m / 128), to that of m

module _ {m s : ℕ} (pre : (2 ^ 12 ≤ m) × (m < 2 ^ 14)) (h : WholeRoot (128 * (m / 128)) s) where
  pub table_lt : s < 128
  table_lt = root_lt 128 h (omega arith)

  pub next_square_small : (s + 1) * (s + 1) < 2 ^ 64
  next_square_small =
      let l : s + 1 ≤ 128 = omega (arith, table_lt) in
      lt_of_le_of_lt (square_mono l) (lit< tt)

  pub next_root : (s + 1) * (s + 1) ≤ m → WholeRoot m (s + 1)
  next_root l = let g : 64 ≤ s = root_ge 64 h (omega arith) in omega arith

-- ---- the three steps in `root54`

module _ {m : ℕ} (pre : (2 ^ 52 ≤ m) × (m < 2 ^ 54)) where
  pub step_14 : {s : ℕ} → WholeRoot (m / 2 ^ 40) s → Step (m / 2 ^ 40) s 128 (m / 2 ^ 26 / 128 % 128) (m / 2 ^ 26 % 128)
  step_14 {s} h =
      let lo : 64 ≤ s = root_ge 64 h (omega arith) in
      let hi : s < 128 = root_lt 128 h (omega arith) in
      record {
        root = h;
        base = omega arith;
        digit1 = mod-lt (m / 2 ^ 26 / 128) (zero-lt-suc 127);
        digit2 = mod-lt (m / 2 ^ 26) (zero-lt-suc 127);
        root_small = omega arith;
        base_small = omega arith;
      }

  pub step_27 : {s : ℕ} → WholeRoot (m / 2 ^ 26) s → Step (m / 2 ^ 26) s 8192 (m / 8192 % 8192) (m % 8192)
  step_27 {s} h =
      let lo : 8192 ≤ s = root_ge 8192 h (omega arith) in
      let hi : s < 2 ^ 14 = root_lt (2 ^ 14) h (omega arith) in
      record {
        root = h;
        base = omega arith;
        digit1 = mod-lt (m / 8192) (zero-lt-suc 8191);
        digit2 = mod-lt m (zero-lt-suc 8191);
        root_small = omega arith;
        base_small = omega arith;
      }

  pub step_54 : {s : ℕ} → WholeRoot m s → Step m s (2 ^ 27) 0 0
  step_54 {s} h =
      let lo : 2 ^ 26 ≤ s = root_ge (2 ^ 26) h pre.0 in
      let hi : s < 2 ^ 27 = root_lt (2 ^ 27) h pre.1 in
      record { root = h; base = omega arith; digit1 = lit< tt; digit2 = lit< tt; root_small = hi; base_small = lit≤ tt }

-- ---- what each step is given makes up the next number

pub digits_28 : (m : ℕ) → m / 2 ^ 40 * (128 * 128) + m / 2 ^ 26 / 128 % 128 * 128 + m / 2 ^ 26 % 128 ≡ m / 2 ^ 26
digits_28 m = ap (λ (x : ℕ). x * (128 * 128) + m / 2 ^ 26 / 128 % 128 * 128 + m / 2 ^ 26 % 128) (sym (shr-shr m 26 14)) ∙ go (m / 2 ^ 26)
  where
    go : (n : ℕ) → n / 16384 * 16384 + n / 128 % 128 * 128 + n % 128 ≡ n
    go n = omega arith

pub digits_54 : (m : ℕ) → m / 2 ^ 26 * (8192 * 8192) + m / 8192 % 8192 * 8192 + m % 8192 ≡ m
digits_54 m = omega arith
