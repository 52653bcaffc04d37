-- `column_after` takes one byte more of the first column, by what stands there. Assumes nothing.
use mathlib.Core.Path.{◌∙◌, subst}
use Rattle.textform_season.specs.Kept.{ColumnSound}
use Rattle.textform_season.proofs.inner.column.Digits.{found, letter_first, digit_first, none_after_letter, digit_next}
use Rattle.textform_season.proofs.inner.column.column_after.Goals as goal

pub returns-then-byte-eq76 : goal.returns-then-byte-eq76
returns-then-byte-eq76 c = (found c.args.byte _ _ _ c.in-Empty.is (letter_first c.args.byte c.if-byte-eq76.true), tt)

pub digit_after-requires-in-Number : goal.digit_after-requires-in-Number
digit_after-requires-in-Number c = (subst ColumnSound c.in-Number.is c.requires).1

pub returns-else-byte-eq76 : goal.returns-else-byte-eq76
returns-else-byte-eq76 c =
    (found c.args.byte _ _ _ c.in-Empty.is (c.digit_after.ensures.0 ∙ digit_first c.args.byte c.if-byte-eq76.false), c.digit_after.ensures.1)

pub returns-in-Limit : goal.returns-in-Limit
returns-in-Limit c = (found c.args.byte _ _ _ c.in-Limit.is (none_after_letter c.args.byte), tt)

pub returns-in-Number : goal.returns-in-Number
returns-in-Number c =
    (found c.args.byte _ _ _ c.in-Number.is (c.digit_after-in-Number.ensures.0 ∙ digit_next c.args.byte _), c.digit_after-in-Number.ensures.1)
