-- A refusal of the string, else whether it has 4 vertices or more and keeps a point with itself. Assumes nothing.
use mathlib.Core.Path.{sym, ap₂, ◌∙◌}
use mathlib.Core.Bool.{◌&&◌}
use Prim.Native.Nat.{ℕ}
use lib.Dec.{leb, ltb}
use lib.Ieee.{of_bits}
use Rattle.arcstring_check.specs.Answer.{answered}
use Rattle.arcstring_check.proofs.Answers.{stopped, went_on}
use Rattle.arcstring.proofs.Flat.{count_points}
use Rattle.arcstring_listing.proofs.Turns.{left_with}
use Rattle.arcstring_self.specs.SelfListing.{crosses_self}
use Rattle.arcstring_tally.proofs.Tallies.{tally_kept}
use Rattle.arcstring_self.proofs.with_self.crosses_self.Goals as goal

pub returns-in_err-string : goal.returns-in_err-string
unfolding crosses_self
returns-in_err-string c = left_with _ _ c.from_residual.ensures.1 ∙ stopped _ _ _ c.in_err-string.ensures

pub returns : goal.returns
unfolding crosses_self of_bits
returns c =
    let s = c.in_ok-string.ensures in
    ap₂ (λ (n k : ℕ). answered (leb 4 n && ltb 0 k)) (sym (count_points c.args.v.now)) (tally_kept _ _ c.tally_self-t.ensures.0)
    ∙ rw (s.0, s.1) (went_on _ _ s.2)
