-- The legs that stand in the local list that splitting a leg works on: for the contracts of its methods. Definitions only.
use Rattle.std.specs.Prelude.{List, ◌*◌, Result, Ok, Err}
use Rattle.arcstring_check.specs.declared.check.Refusal.{Refusal}
use Rattle.arcstring_check.specs.Answer.{Answer, refused, answered, refusal_number}
use Rattle.arcstring.specs.Work.{first_of_list}
use Rattle.arcstring.specs.Leg.{Leg}
use Rattle.arcstring_split_leg.specs.declared.cut_leg.Work.{Work}
use Rattle.arcstring_split_leg.specs.Legs.{legs_of}

-- the legs
abbrev pub standing : Work → List Leg
standing w = legs_of (first_of_list (2 * w.count) w.v)

-- what a step answered, and what then stands
abbrev pub worked : Result Unit Refusal → Work → Answer (List Leg)
worked (Ok tt) w = answered (standing w)
worked (Err e) w = refused (refusal_number e)
