-- `root_bits` meets its contract: each need is a fact of `Placed`. Assumes nothing.
use mathlib.Core.Path.{◌∙◌, refl, sym, ap, subst}
use Prim.Native.Nat.{ℕ, ◌*◌, ◌^◌}
use native.Mathlib.Omega.{arith}
use mathlib.Core.Bool.{false}
use lib.Ieee.{odd}
use Rattle.square_root.specs.Sqrt.{sqrt_of}
use Rattle.square_root.specs.RootStep.{WholeRoot, significand_of}
use Rattle.square_root.proofs.Patterns.{read}
use Rattle.square_root.proofs.Placed.{Parts, parts_of, placed, placed_is, placed_ge, placed_le, zeros_ge, shift_le, field_ge, root54_lt, pattern_lt}
use Rattle.square_root.proofs.Placed.{pattern_is}
use Rattle.square_root.proofs.root_bits.Goals as goal

pub overflow_sub-z : goal.overflow_sub-z
overflow_sub-z c = zeros_ge (parts_of c.requires c.significand-m.ensures refl)

pub overflow_sub-f : goal.overflow_sub-f
overflow_sub-f c =
    let parts : Parts c.significand-m.result c.place.result = parts_of c.requires c.significand-m.ensures c.place.ensures in
    rw c.from.ensures (omega (arith, shift_le parts))

pub overflow_cast-s : goal.overflow_cast-s
overflow_cast-s c =
    let parts : Parts c.significand-m.result c.place.result = parts_of c.requires c.significand-m.ensures c.place.ensures in
    omega (arith, shift_le parts)

pub overflow_shl-s : goal.overflow_shl-s
overflow_shl-s c =
    let parts : Parts c.significand-m.result c.place.result = parts_of c.requires c.significand-m.ensures c.place.ensures in
    omega (arith, shift_le parts)

pub overflow_mul-s : goal.overflow_mul-s
overflow_mul-s c =
    let parts : Parts c.significand-m.result c.place.result = parts_of c.requires c.significand-m.ensures c.place.ensures in
    rw c.from.ensures (omega (arith, placed_is parts, placed_le parts))

pub root54-r-requires : goal.root54-r-requires
root54-r-requires c =
    let parts : Parts c.significand-m.result c.place.result = parts_of c.requires c.significand-m.ensures c.place.ensures in
    rw c.from.ensures (omega (arith, placed_is parts, placed_ge parts, placed_le parts))

pub overflow_sub-result : goal.overflow_sub-result
overflow_sub-result c =
    let parts : Parts c.significand-m.result c.place.result = parts_of c.requires c.significand-m.ensures c.place.ensures in
    omega (arith, field_ge parts)

pub overflow_add-result : goal.overflow_add-result
overflow_add-result c =
    let parts : Parts c.significand-m.result c.place.result = parts_of c.requires c.significand-m.ensures c.place.ensures in
    let whole : WholeRoot (placed c.significand-m.result c.place.result * 2 ^ 54) c.root54-r.result =
    subst (λ (n : ℕ). WholeRoot (n * 2 ^ 54) c.root54-r.result) (placed_is parts) (rw c.from.ensures at c.root54-r.ensures) in
    omega (arith, root54_lt parts whole)

pub returns : goal.returns
returns c =
    let parts : Parts c.significand-m.result c.place.result = parts_of c.requires c.significand-m.ensures c.place.ensures in
    let whole : WholeRoot (placed c.significand-m.result c.place.result * 2 ^ 54) c.root54-r.result =
    subst (λ (n : ℕ). WholeRoot (n * 2 ^ 54) c.root54-r.result) (placed_is parts) (rw c.from.ensures at c.root54-r.ensures) in
    rw c.from.ensures (
      pattern_lt parts whole,
      pattern_is parts whole
          ∙ ap (λ (m : ℕ). sqrt_of (odd 53 false m c.place.result 1074)) c.significand-m.ensures
          ∙ ap (λ (e : ℕ). sqrt_of (odd 53 false (significand_of c.args.b) e 1074)) c.place.ensures
          ∙ ap sqrt_of (sym (read c.args.b c.requires.1)),
    )
