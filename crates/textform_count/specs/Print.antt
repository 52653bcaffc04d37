-- What the programs print of counts, and what the counting program prints: a heading and the counts, or a refusal's number. Definitions only.
use Rattle.std.specs.Prelude.{List, [], ◌∷◌, ◌++◌, ℕ, ◌+◌, ◌*◌}
use Rattle.arcstring_check.specs.Answer.{Answer, refused, answered}
use Rattle.arcstring_tally.specs.declared.counts.Counts.{Counts}
use Rattle.textform.specs.Text.{blank, line_feed}
use Rattle.textform.specs.Print.{most_digits, decimal, refusal_text}

-- room for four counts and the byte after them
abbrev pub counts_room : ℕ
counts_room = 4 * (most_digits + 1)

-- `clean end grazing apart`
abbrev pub heading : List ℕ
heading = 99 ∷ 108 ∷ 101 ∷ 97 ∷ 110 ∷ 32 ∷ 101 ∷ 110 ∷ 100 ∷ 32 ∷ 103 ∷ 114 ∷ 97 ∷ 122 ∷ 105 ∷ 110 ∷ 103 ∷ 32 ∷ 97 ∷ 112 ∷ 97 ∷ 114 ∷ 116 ∷ []

-- the four counts, a blank before each but the first
unfoldable pub four_counts : Counts → List ℕ
four_counts c =
    decimal c.clean
    ++ (blank ∷ (decimal c.end
    ++ (blank ∷ (decimal c.grazing
    ++ (blank ∷ decimal c.apart)))))

unfoldable pub counts_text : Counts → List ℕ
counts_text c = heading ++ (line_feed ∷ (four_counts c ++ (line_feed ∷ [])))

abbrev pub printed : Answer Counts → List ℕ
printed (refused n) = refusal_text n
printed (answered c) = counts_text c
