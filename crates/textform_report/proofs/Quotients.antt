-- The quotient of `specs/Permille.antt`, by whether there is anything to divide by. Assumes nothing.
use mathlib.Core.Path.{◌≡◌, ap}
use mathlib.Core.Bool.{Bool}
use Prim.Native.Nat.{ℕ, ◌+◌, ◌*◌, ◌/◌}
use borrow.Author.Tests.{eq-eqb, ne_eqb}
use Rattle.arcstring_check.specs.Answer.{pick}
use Rattle.textform_report.specs.Permille.{nearest_quotient}

-- n and half of d, twice: what is divided by twice d
abbrev pub half_more : ℕ → ℕ → ℕ
half_more n d = 2 * n + d

pub quotient_by_none : (n d : ℕ) → d ≡ 0 → nearest_quotient n d ≡ 0
unfolding nearest_quotient
quotient_by_none n d h = ap (λ (t : Bool). pick t 0 (half_more n d / (2 * d))) (eq-eqb d 0 h)

pub quotient_by_some : (n d : ℕ) → (d ≡ 0 → ⊥) → nearest_quotient n d ≡ half_more n d / (2 * d)
unfolding nearest_quotient
quotient_by_some n d h = ap (λ (t : Bool). pick t 0 (half_more n d / (2 * d))) (ne_eqb d 0 h)
