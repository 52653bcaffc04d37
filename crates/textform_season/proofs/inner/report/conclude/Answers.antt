-- `conclude` prints 8 where the input is malformed, and else what the limit and the tracks give. Assumes nothing.
use mathlib.Core.Path.{◌≡◌, ap}
use mathlib.Core.Bool.{false}
use mathlib.Core.Logic.{inl, inr}
use Rattle.textform_season.specs.Season.{is_empty}
use Rattle.textform_season.specs.Held.{held_season}
use Rattle.textform_season.proofs.inner.report.Reports.{within_row, within_column, at_row_start}
use native.Mathlib.Omega.{arith}
use Rattle.textform_season.proofs.inner.report.conclude.Goals as goal

pub returns-then-r-ne-ROW_START : goal.returns-then-r-ne-ROW_START
returns-then-r-ne-ROW_START c =
    record {
      out_after = within_row (held_season c.args.r c.args.limit.now c.args.track.now c.args.out.now) _ c.if-r-ne-ROW_START.true c.print_refusal.ensures.0;
      upper_bound = omega arith;
    }

-- At the start of a row, where nothing of its first column has been read,
-- the input is well formed.
pub returns-in-Empty : goal.returns-in-Empty
returns-in-Empty c =
    let s = held_season c.args.r c.args.limit.now c.args.track.now c.args.out.now in
    record {
      out_after = at_row_start s _ c.if-r-ne-ROW_START.false (ap is_empty c.in-Empty.is) c.print_season.ensures.out_after;
      upper_bound = c.print_season.ensures.upper_bound;
    }

pub returns-in-Limit : goal.returns-in-Limit
returns-in-Limit c =
    let within : is_empty c.args.r.column ≡ false = elim c.in-Limit.is [ inl e ↦ ap is_empty e | inr n ↦ ap is_empty n.1 ] in
    let s = held_season c.args.r c.args.limit.now c.args.track.now c.args.out.now in
    record {
      out_after = within_column s _ c.if-r-ne-ROW_START.false within c.print_refusal-in-Limit.ensures.0;
      upper_bound = omega arith;
    }
