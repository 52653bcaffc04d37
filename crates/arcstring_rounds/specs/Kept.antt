-- What a round of simplifying keeps, as a walk over the vertices: for the contracts of inner functions. Definitions only.
use Rattle.std.specs.Prelude.{List, [], ◌∷◌, ◌++◌, ℕ, ◌+◌, take, drop}
use Rattle.sphericalpoint.specs.declared.SphericalPoint.{SphericalPoint}
use Rattle.arcstring_check.specs.Answer.{pick}
use Rattle.arcstring_rounds.specs.Rounds.{unnecessary}

-- of the elements xs, those whose position, counted from k on, is not judged unnecessary in ps
unfoldable pub kept_from : {A : Type 0} → List SphericalPoint → ℕ → List A → List A
kept_from ps k [] = []
kept_from ps k (x ∷ xs) = pick (unnecessary ps k) (kept_from ps (k + 1) xs) (x ∷ kept_from ps (k + 1) xs)

-- the first, and then of those from 1 + skip on what the positions from 1 on keep
unfoldable pub kept_vertices : {A : Type 0} → List SphericalPoint → List A → ℕ → List A
kept_vertices ps xs skip = take 1 xs ++ kept_from ps 1 (drop (1 + skip) xs)
