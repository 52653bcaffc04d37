-- Within 2 ^ 20 places of 1 the root's pattern is the mean of 1's and the number's, rounded down. Assumes nothing.
use mathlib.Core.Path.{◌≡◌, sym, ap, ◌∙◌, subst}
use mathlib.Core.Bool.{false}
use Prim.Native.Nat.{ℕ, zero, suc, ◌+◌, ◌-◌, ◌*◌, ◌/◌, ◌%◌, ◌^◌, ◌≤◌, ◌<◌}
use native.Mathlib.Decide.{dec_le}
use native.Mathlib.Omega.{arith}
use lib.Ieee.{binary64, odd, of_bits}
use Rattle.square_root.specs.Sqrt.{sqrt_of}
use Rattle.square_root.specs.RootStep.{WholeRoot, significand_of}
use Rattle.square_root.proofs.Squares.{square_mono}
use Rattle.square_root.proofs.Halfway.{half}
use Rattle.square_root.proofs.Patterns.{read}
use Rattle.square_root.proofs.Placed.{Parts, shift, left, placed, full, pattern_lt, pattern_is}

-- what the pattern c owes the number whose pattern is b
abbrev pub RootPattern : ℕ → ℕ → Type 0
RootPattern b c = (c < 0x7ff0_0000_0000_0000) × (of_bits binary64 c ≡ sqrt_of (of_bits binary64 b))

-- ---- the whole roots: the square of the distance from 1 is too small to move them

above_root : (k : ℕ) → k < 2 ^ 20 → WholeRoot ((2 ^ 52 + suc k) * 2 ^ 54) (2 ^ 53 + k)
above_root k l =
    let s : k * k ≤ 2 ^ 20 * 2 ^ 20 = square_mono {b = 2 ^ 20} (omega arith) in
    record { square_le = omega (arith, s); next_above = omega arith }

around : (n j : ℕ) → j * j ≤ 2 * n → WholeRoot (n * (n + 2 * j + 2)) (n + j)
around n j s = record { square_le = omega (arith, s); next_above = omega arith }

below_root : (n j : ℕ) → j < 2 ^ 20 → n + 2 * j + 2 ≡ 2 ^ 54 → WholeRoot (n * 2 ^ 54) (n + j)
below_root n j l e =
    let s : j * j ≤ 2 ^ 20 * 2 ^ 20 = square_mono {b = 2 ^ 20} (omega arith) in
    subst (λ (h : ℕ). WholeRoot (n * h) (n + j)) e (around n j (omega (arith, s, e)))

-- ---- the patterns: 1 itself, those above it, and those below it, whose places are half as wide

module _ (b : ℕ) {m e r : ℕ} (u : b < 0x7ff0_0000_0000_0000) (i : significand_of b ≡ m) (j : b / 2 ^ 52 - 1 ≡ e) (p : Parts m e) where
  conclude : WholeRoot (placed m e * 2 ^ 54) r → (c : ℕ) → (left m e / 2 - 26) * 2 ^ 52 + half r ≡ c → RootPattern b c
  conclude h c is =
      subst (RootPattern b) is (
        pattern_lt p h,
        pattern_is p h
            ∙ ap (λ (x : ℕ). sqrt_of (odd 53 false x e 1074)) (sym i)
            ∙ ap (λ (x : ℕ). sqrt_of (odd 53 false (significand_of b) x 1074)) (sym j)
            ∙ ap sqrt_of (sym (read b u)),
      )

placed_even : (m : ℕ) → shift m ≡ 0 → placed m 1022 ≡ m
placed_even m z = ap (λ (x : ℕ). m * 2 ^ x * (1 + (1022 + 1074 - x) % 2)) z ∙ omega arith

placed_odd : (m : ℕ) → shift m ≡ 0 → placed m 1021 ≡ 2 * m
placed_odd m z = ap (λ (x : ℕ). m * 2 ^ x * (1 + (1021 + 1074 - x) % 2)) z ∙ omega arith

pub at_one : RootPattern 0x3ff0_0000_0000_0000 0x3ff0_0000_0000_0000
at_one =
    let p : Parts (2 ^ 52) 1022 = record { some = omega arith; few = omega arith; near = omega arith } in
    let z : shift (2 ^ 52) ≡ 0 = full p (omega arith) in
    let h : WholeRoot (2 ^ 52 * 2 ^ 54) (2 ^ 53) = record { square_le = omega arith; next_above = omega arith } in
    conclude 0x3ff0_0000_0000_0000 (omega arith) (omega arith) (omega arith) p
    (subst (λ (n : ℕ). WholeRoot (n * 2 ^ 54) (2 ^ 53)) (sym (placed_even (2 ^ 52) z)) h)
    0x3ff0_0000_0000_0000
    (omega (arith, z))

pub above_one : (k : ℕ) → k < 2 ^ 20 → RootPattern (0x3ff0_0000_0000_0000 + suc k) ((0x3ff0_0000_0000_0000 + suc k + 0x3ff0_0000_0000_0000) / 2)
above_one k l =
    let m = 2 ^ 52 + suc k in
    let p : Parts m 1022 = record { some = omega arith; few = omega arith; near = omega arith } in
    let z : shift m ≡ 0 = full p (omega arith) in
    conclude (0x3ff0_0000_0000_0000 + suc k) (omega arith) (omega arith) (omega arith) p
    (subst (λ (n : ℕ). WholeRoot (n * 2 ^ 54) (2 ^ 53 + k)) (sym (placed_even m z)) (above_root k l))
    ((0x3ff0_0000_0000_0000 + suc k + 0x3ff0_0000_0000_0000) / 2)
    (omega (arith, z))

pub below_one : (j b : ℕ) → j < 2 ^ 20 → b + suc j ≡ 0x3ff0_0000_0000_0000 → RootPattern b ((b + 0x3ff0_0000_0000_0000) / 2)
below_one j b l is = go (2 ^ 53 - suc j) (omega arith)
  where
    go : (m : ℕ) → m + suc j ≡ 2 ^ 53 → RootPattern b ((b + 0x3ff0_0000_0000_0000) / 2)
    go m w =
        let p : Parts m 1021 = record { some = omega (arith, w, l); few = omega (arith, w); near = omega arith } in
        let z : shift m ≡ 0 = full p (omega (arith, w, l)) in
        conclude b (omega (arith, is)) (omega (arith, is, w, l)) (omega (arith, is, l)) p
        (subst (λ (n : ℕ). WholeRoot (n * 2 ^ 54) (2 * m + j)) (sym (placed_odd m z)) (below_root (2 * m) j l (omega (arith, w))))
        ((b + 0x3ff0_0000_0000_0000) / 2)
        (omega (arith, z, is, l, w))

-- ---- any of them

pub near_one : (b : ℕ) → 0x3fef_ffff_fff0_0000 ≤ b → b ≤ 0x3ff0_0000_0010_0000 → RootPattern b ((b + 0x3ff0_0000_0000_0000) / 2)
near_one b lo hi = go (dec_le 0x3ff0_0000_0000_0000 b)
  where
    from : (k : ℕ) → k ≤ 2 ^ 20 → RootPattern (0x3ff0_0000_0000_0000 + k) ((0x3ff0_0000_0000_0000 + k + 0x3ff0_0000_0000_0000) / 2)
    from zero l = at_one
    from (suc k) l = above_one k (omega arith)

    go : Dec (0x3ff0_0000_0000_0000 ≤ b) → RootPattern b ((b + 0x3ff0_0000_0000_0000) / 2)
    go (yes h) =
        subst (λ (x : ℕ). RootPattern x ((x + 0x3ff0_0000_0000_0000) / 2)) (omega (arith, h)) (from (b - 0x3ff0_0000_0000_0000) (omega (arith, h, hi)))
    go (no h) = below_one (0x3ff0_0000_0000_0000 - b - 1) b (omega (arith, h, lo)) (omega (arith, h, lo))
