-- What is claimed of `contains`. Definitions only. The proof is `contains_is_within` of `proofs/Relations.antt`.
use Rattle.std.specs.Prelude.{◌≡◌, Bool, List, Float}
use Rattle.std.proofs.Math.Option.{Option, none, some}
use Rattle.arcstring_check.specs.Answer.{Answer, refused, answered}
use Rattle.arcstring_relation.specs.Relation.{within, contains}

-- the verdict, where there is one; of a refusal not the number
abbrev pub verdict_of : Answer Bool → Option Bool
verdict_of (refused n) = none
verdict_of (answered b) = some b

-- `contains` is `within` with the strings traded, for any lists: both give the same verdict, or both refuse. Their lists are checked in another order, so that
-- where lists of both strings are wrong the numbers may differ.
abbrev pub ContainsIsWithin : Type 0
ContainsIsWithin =
    (a a_near : List Float) (a_closed : Bool) (b : List Float) → verdict_of (contains a a_near a_closed b) ≡ verdict_of (within b a a_near a_closed)
