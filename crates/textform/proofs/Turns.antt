-- The bytes in turn, whatever each of them does: in pieces, as `specs/TextLaws.antt` has it, and as a loop takes them. Assumes nothing.
use mathlib.Core.Path.{◌≡◌, refl, sym, ap, ◌∙◌}
use mathlib.Core.List.{List, [], ◌∷◌, ◌++◌}
use Prim.Native.Nat.{ℕ, ◌+◌, ◌≤◌, ◌<◌}
use native.Mathlib.Numerals.{add-one}
use lib.ListN.{length, get_or, drop, drop_of_length-le}
use lib.Seq.{drop-cons}
use Rattle.textform.specs.Text.{in_turn}
use Rattle.textform.specs.TextLaws.{FedInPieces}

-- bytes in two pieces, one after the other
pub fed-in_pieces : FedInPieces
unfolding in_turn
fed-in_pieces S step s [] ys = refl
fed-in_pieces S step s (x ∷ xs) ys = fed-in_pieces S step (step s x) xs ys

-- where the first piece leads, and the other from there
pub fed_then : {S : Type 0} (step : S → ℕ → S) (s : S) (xs ys : List ℕ) {t u : S} → in_turn step s xs ≡ t → in_turn step t ys ≡ u
    → in_turn step s (xs ++ ys) ≡ u
fed_then {S} step s xs ys h k = sym (fed-in_pieces S step s xs ys) ∙ ap (λ (t : S). in_turn step t ys) h ∙ k

module _ {S : Type 0} (step : S → ℕ → S) (s : S) (bytes : List ℕ) (i : ℕ) where
  -- the next byte first
  next_first : i < length bytes → in_turn step (step s (get_or bytes i 0)) (drop (i + 1) bytes) ≡ in_turn step s (drop i bytes)
  unfolding in_turn
  next_first h = sym (rw (add-one, drop-cons bytes i 0))

  -- a turn of the loop over the bytes
  pub fed-next : (t whole : S) → i < length bytes → t ≡ step s (get_or bytes i 0) → in_turn step s (drop i bytes) ≡ whole
      → in_turn step t (drop (i + 1) bytes) ≡ whole
  fed-next t whole l h e = ap (λ (x : S). in_turn step x (drop (i + 1) bytes)) h ∙ next_first l ∙ e

  -- no byte is left
  pub fed_all : length bytes ≤ i → s ≡ in_turn step s (drop i bytes)
  unfolding in_turn
  fed_all h = rw (drop_of_length-le bytes h)
