-- What a C program lends as the string layer reads it, and the layer's answers as the program gets them: a number that is 0 or the
-- refusal's, and results in the places that were lent for them. Definitions only.
use Rattle.std.specs.Prelude.{◌≡◌, Bool, not, List, [], ◌∷◌, ℕ, eqb, get_or, Float}
use Rattle.std.specs.Float.{nan}
use Rattle.sphericalpoint.specs.declared.SphericalPoint.{SphericalPoint}
use Rattle.arcstring_check.specs.Answer.{Answer, refused, answered, flag_number}
use Rattle.arcstring.specs.Points.{point}
use Rattle.arcstring.specs.Leg.{Leg, leg}

-- ---- what is lent

-- a flag is 0 for open and anything else for closed
abbrev pub flag : ℕ → Bool
flag n = not (eqb n 0)

-- a leg as six floats: its start, then its end
abbrev pub leg_of_six : List Float → Leg
leg_of_six l = leg (point (get_or l 0 nan) (get_or l 1 nan) (get_or l 2 nan)) (point (get_or l 3 nan) (get_or l 4 nan) (get_or l 5 nan))

-- ---- any answer

-- 0, or the number of the refusal
abbrev pub answer_number : {A : Type 0} → Answer A → ℕ
answer_number (refused n) = n
answer_number (answered x) = 0

-- what a place lent for a part of the result holds after the call: a refusal leaves it as it came
abbrev pub left_in : {A B : Type 0} → (A → B) → Answer A → B → B
left_in part (refused n) old = old
left_in part (answered x) old = part x

-- what a place lent for the whole result holds, where a conversion gives what is put there
abbrev pub Leaves : {A B : Type 0} → (A → B → Type 0) → Answer A → B → B → Type 0
Leaves gives (refused n) old new = new ≡ old
Leaves gives (answered x) old new = gives x new

-- ---- the parts of each answer

abbrev pub three_floats : SphericalPoint → List Float
three_floats p = p.x ∷ p.y ∷ p.z ∷ []

-- how many vertices were built, and 1 where they close
abbrev pub built_count : ℕ × Bool → ℕ
built_count r = r.0

abbrev pub built_flag : ℕ × Bool → ℕ
built_flag r = flag_number r.1
