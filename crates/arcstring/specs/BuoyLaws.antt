-- What is claimed of the numbers that vertices carry, for every call that is lent a string: how they bear on its checks. Definitions only. The proof is
-- `lent_alone` of `proofs/WithoutBuoys.antt`.
use Rattle.std.specs.Prelude.{◌≡◌, List, ℕ, ◌*◌, ◌/◌, ◌≤◌, length, Float}
use Rattle.arcstring_check.specs.Answer.{Answer, unless_refused, and_then}
use Rattle.arcstring_check.specs.Check.{stored_check, into_room, lent}

-- as many numbers as points, and a number's room for every vertex's: the checks are those of the points alone
abbrev pub LentAlone : Type 1
LentAlone =
    (A : Type 0) (v : List Float) (buoys : List ℕ) (room buoy_room : ℕ) (a : Answer (List A)) → length buoys ≡ length v / 3 → room ≤ 3 * buoy_room
    → lent v buoys room buoy_room a ≡ unless_refused (stored_check v) (and_then a (into_room room))
