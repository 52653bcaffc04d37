-- Pieces as they stand one after another in lists that are worked on: for the contracts of inner functions. Definitions only.
use Rattle.std.specs.Prelude.{◌≡◌, true, List, [], ◌∷◌, ◌++◌, ℕ, ◌+◌, ◌*◌, ◌≤◌, length, get_or, take, drop, Float}
use Rattle.std.proofs.Math.Option.{Option, none, some}
use Rattle.arcstring_check.specs.Answer.{pick}
use Rattle.arcstring_check.specs.Check.{most_points}
use Rattle.arcstring.specs.declared.inner.vertex.Vertex.{Vertex}
use Rattle.arcstring.specs.Points.{numbered, place_of, points}
use Rattle.arcstring_piece.specs.Pieces.{sum, all_some}
use Rattle.arcstring_mark_cut.specs.CutAtMarks.{part_before, part_after, at_piece_end}

-- room for an opened string: vertex 0 of a closed one stands there twice
abbrev pub opened_room : ℕ
opened_room = most_points + 1

-- pieces by their counts, one after another
unfoldable pub in_pieces : {A : Type 0} → List ℕ → List A → List (List A)
in_pieces [] xs = []
in_pieces (c ∷ cs) xs = take c xs ∷ in_pieces cs (drop c xs)

-- the first m pieces of lists that are worked on: vertices, their numbers, counts
unfoldable pub standing : ℕ → List Float → List ℕ → List ℕ → List (List Vertex)
standing m v buoys counts = in_pieces (take m counts) (numbered (points v) buoys)

-- what a mark makes of the pieces whose first that holds it is piece k, by leg i
unfoldable pub cut_there : Vertex → ℕ → ℕ → List (List Vertex) → Option (List (List Vertex))
cut_there x k i xss =
    let xs = get_or xss k [] in
    pick (at_piece_end place_of x xs) none (some (take k xss ++ (part_before x i xs ∷ part_after x i xs ∷ drop (k + 1) xss)))

-- Room for m pieces of a string that had n points when it was opened: none of them is empty, and each cut put in two points more.
pub record Stands (n m : ℕ) (v : List Float) (buoys counts : List ℕ) : Type 0 where
  pub floats : length v ≡ 3 * opened_room
  pub buoys_room : length buoys ≡ opened_room
  pub counts-room : length counts ≡ most_points
  pub some : all_some (take m counts) ≡ true
  pub pieces : 1 ≤ m
  pub points : sum (take m counts) + 2 ≡ n + 2 * m
  pub limit : sum (take m counts) ≤ opened_room
