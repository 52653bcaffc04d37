-- `check::check_building` meets its contract, whichever way its tests go. Assumes nothing.
use mathlib.Core.Path.{◌∙◌}
use Rattle.arcstring_check.proofs.Checks.{building_not_as_many, building_too_few, building_enough}
use Rattle.arcstring_check.proofs.inner.checks.check_building.Goals as goal

pub returns-then-buoys-list : goal.returns-then-buoys-list
returns-then-buoys-list c = c.check_list.ensures ∙ building_not_as_many _ _ c.if-buoys-list.true

pub returns-then-list-lt2 : goal.returns-then-list-lt2
returns-then-list-lt2 c = c.check_list-then-list-lt2.ensures ∙ building_too_few _ _ c.if-buoys-list.false c.if-list-lt2.true

pub returns : goal.returns
returns c = c.check_list-2.ensures ∙ building_enough _ _ c.if-buoys-list.false c.if-list-lt2.false
