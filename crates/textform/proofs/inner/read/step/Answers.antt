-- `read::step` takes one byte as the machine does, whatever part stands at its place, by `Reading`. Assumes nothing.
use mathlib.Core.Path.{sym, ◌∙◌}
use Rattle.textform.proofs.inner.read.Reading.{stepped}
use Rattle.textform.proofs.inner.read.step.Goals as goal

pub take_exactly-requires : goal.take_exactly-requires
take_exactly-requires c = sym c.part_at.ensures ∙ c.in-Exactly.is

pub take_name-requires : goal.take_name-requires
take_name-requires c = sym c.part_at.ensures ∙ c.in-Name.is

pub take_digit-requires : goal.take_digit-requires
take_digit-requires c = sym c.part_at.ensures ∙ c.in-Digit.is

pub take_last_digit-requires : goal.take_last_digit-requires
take_last_digit-requires c = sym c.part_at.ensures ∙ c.in-LastDigit.is

pub returns-in-Exactly : goal.returns-in-Exactly
returns-in-Exactly c = stepped c.args.byte _ _ _ (sym c.part_at.ensures ∙ c.in-Exactly.is) (c.take_exactly.ensures c.args.a.now c.args.b.now)

pub returns-in-Name : goal.returns-in-Name
returns-in-Name c = stepped c.args.byte _ _ _ (sym c.part_at.ensures ∙ c.in-Name.is) (c.take_name.ensures c.args.a.now c.args.b.now)

pub returns-in-Digit : goal.returns-in-Digit
returns-in-Digit c = stepped c.args.byte _ _ _ (sym c.part_at.ensures ∙ c.in-Digit.is) (c.take_digit.ensures c.args.a.now c.args.b.now)

pub returns-in-LastDigit : goal.returns-in-LastDigit
returns-in-LastDigit c = stepped c.args.byte _ _ _ (sym c.part_at.ensures ∙ c.in-LastDigit.is) c.take_last_digit.ensures

pub returns-in-Nothing : goal.returns-in-Nothing
returns-in-Nothing c = stepped c.args.byte _ _ _ (sym c.part_at.ensures ∙ c.in-Nothing.is) (c.malformed.ensures c.args.a.now c.args.b.now)
