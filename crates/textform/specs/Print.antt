-- What the programs print: decimal numbers, and the line of a refusal. Definitions only.
use Rattle.std.specs.Prelude.{List, [], ◌∷◌, ◌++◌, ℕ, zero, suc, ◌+◌, ◌/◌, ◌%◌, ltb}
use Rattle.arcstring_check.specs.Answer.{pick}
use Rattle.textform.specs.Text.{blank, line_feed}

-- room for a refusal, and for what the counting program prints
abbrev pub print_room : ℕ
print_room = 128

-- the most decimal digits of a 64-bit number
abbrev pub most_digits : ℕ
most_digits = 20

-- the decimal digits of a number, at most so many
unfoldable pub decimal_within : ℕ → ℕ → List ℕ
decimal_within zero n = []
decimal_within (suc most) n = pick (ltb n 10) ((48 + n) ∷ []) (decimal_within most (n / 10) ++ ((48 + n % 10) ∷ []))

unfoldable pub decimal : ℕ → List ℕ
decimal n = decimal_within most_digits n

-- `refusal`
abbrev pub refusal_word : List ℕ
refusal_word = 114 ∷ 101 ∷ 102 ∷ 117 ∷ 115 ∷ 97 ∷ 108 ∷ []

unfoldable pub refusal_text : ℕ → List ℕ
refusal_text n = refusal_word ++ (blank ∷ (decimal n ++ (line_feed ∷ [])))
