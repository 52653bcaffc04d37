-- Points as they stand at the start of a list that is worked on: for the contracts of inner functions. Definitions only.
use Rattle.std.specs.Prelude.{List, ℕ, ◌*◌, take, Float, Result, Ok, Err}
use Rattle.sphericalpoint.specs.declared.SphericalPoint.{SphericalPoint}
use Rattle.arcstring_check.specs.Answer.{Answer, refused, answered, refusal_number}
use Rattle.arcstring.specs.Points.{points}
use Rattle.arcstring_check.specs.declared.check.Refusal.{Refusal}

-- how many points a short string has at most
abbrev pub short_points : ℕ
short_points = 64

-- the first n points of a list
unfoldable pub first_of_list : ℕ → List Float → List SphericalPoint
first_of_list n v = points (take (3 * n) v)

-- what a step answered, where it stands at the start of a list
abbrev pub held : {A : Type 0} → Result ℕ Refusal → List A → Answer (List A)
held (Ok n) l = answered (take n l)
held (Err e) l = refused (refusal_number e)

-- how many
abbrev pub held_count : Result ℕ Refusal → ℕ
held_count (Ok n) = n
held_count (Err e) = 0
