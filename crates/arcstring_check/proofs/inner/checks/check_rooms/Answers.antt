-- `check::check_rooms` looks at the vertices' buffer, and then at the numbers'. Assumes nothing.
use mathlib.Core.Path.{◌∙◌}
use Rattle.arcstring_check.proofs.Answers.{check_left}
use Rattle.arcstring_check.proofs.Rooms.{rooms_stopped, rooms_went_on}
use Rattle.arcstring_check.proofs.inner.checks.check_rooms.Goals as goal

pub returns-in_err-check_room : goal.returns-in_err-check_room
returns-in_err-check_room c = check_left _ _ c.from_residual.ensures.1 ∙ rooms_stopped _ _ _ _ c.in_err-check_room.ensures

pub returns : goal.returns
returns c = rooms_went_on _ _ _ _ c.in_ok-check_room.ensures c.check_room-2.ensures
