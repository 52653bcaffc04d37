-- What stands in the list once every part of a line is written, one after the other. Assumes nothing.
use mathlib.Core.Path.{◌≡◌, ap, ◌∙◌}
use mathlib.Core.List.{List, [], ◌∷◌, ◌++◌, append_assoc}
use Prim.Native.Nat.{ℕ}
use Rattle.arcstring_tally.specs.declared.counts.Counts.{Counts}
use Rattle.textform.specs.Text.{blank, line_feed}
use Rattle.textform.proofs.inner.print.Printed.{after, number}
use Rattle.textform_count.specs.Print.{four_counts}
use Rattle.textform_report.specs.Permille.{permille}
use Rattle.textform_report.specs.Report.{line_rest, report_line}

-- the four counts, and their permille behind them
module _ (c : Counts) (rate : ℕ) (old four all : List ℕ) where
  pub rest_written : rate ≡ permille c → four ≡ old ++ (four_counts c ++ (blank ∷ []))
      → all ≡ four ++ number rate line_feed → all ≡ old ++ line_rest c
  unfolding line_rest
  rest_written r e f =
      f ∙ after (number rate line_feed) e ∙ ap (λ (n : ℕ). (old ++ (four_counts c ++ (blank ∷ []))) ++ number n line_feed) r ∙ simp append_assoc

-- the rest of a line behind its name
pub line_written : (name : List ℕ) (c : Counts) (old named all : List ℕ) → named ≡ old ++ (name ++ (blank ∷ [])) → all ≡ named ++ line_rest c
    → all ≡ old ++ report_line name c
unfolding report_line
line_written name c old named all e f = f ∙ after (line_rest c) e ∙ simp append_assoc
