-- What is claimed of the text form: it may be read in pieces, and where a row stands past its name. Definitions only. The proofs are `fed-in_pieces` of
-- `proofs/Turns.antt` and `past_name_lem` of `proofs/Rows.antt`.
use Rattle.std.specs.Prelude.{◌≡◌, Bool, List, [], ◌∷◌, ◌++◌, ℕ, Float}
use Rattle.textform.specs.Text.{in_turn}
use Rattle.textform.specs.Text.{blank, letter_a, letter_b, row_start, State, in_row, fed_with}
use Rattle.arcstring_check.specs.Answer.{pick}

-- Bytes fed in two pieces, one after the other, are fed as one, whatever each of them does.
abbrev pub FedInPieces : Type 1
FedInPieces = (S : Type 0) (step : S → ℕ → S) (s : S) (xs ys : List ℕ) → in_turn step (in_turn step s xs) ys ≡ in_turn step s (xs ++ ys)

-- A name and a blank, at the start of a row, lead to where `in_row` stands.
abbrev pub PastName : Type 0
PastName =
    (add : Float → List Float → List Float) (second : Bool) (s : State) → s.place ≡ row_start
    → fed_with add s (pick second letter_b letter_a ∷ blank ∷ []) ≡ in_row second s
