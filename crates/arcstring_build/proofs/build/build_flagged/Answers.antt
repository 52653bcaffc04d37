-- `build_flagged` answers as `build` does, with the given flag for its own. Assumes nothing.
use mathlib.Core.Path.{◌∙◌}
use Rattle.arcstring_check.proofs.Answers.{left}
use Rattle.arcstring_build.proofs.Builds.{flagged_refused, flagged_answered, flagged-leaves}
use Rattle.arcstring_build.proofs.build.build_flagged.Goals as goal

pub returns-in_err-n : goal.returns-in_err-n
returns-in_err-n c =
    let buffers = flagged-leaves c.args.v.now c.args.buoys.now _ _ c.args.closed c.args.out.now _ c.args.out_buoys.now _
    (c.build.ensures.out_after, c.build.ensures.out_buoys_after) in
    record {
      result_value = left _ _ c.from_residual.ensures.1 ∙ flagged_refused c.args.v.now c.args.buoys.now _ _ c.args.closed _ c.in_err-n.ensures.result_value;
      out_after = buffers.0;
      out_buoys_after = buffers.1;
    }

pub returns : goal.returns
returns c =
    let buffers = flagged-leaves c.args.v.now c.args.buoys.now _ _ c.args.closed c.args.out.now _ c.args.out_buoys.now _
    (c.build.ensures.out_after, c.build.ensures.out_buoys_after) in
    record {
      result_value = flagged_answered c.args.v.now c.args.buoys.now _ _ c.args.closed _ _ c.in_ok-n.ensures.result_value;
      out_after = buffers.0;
      out_buoys_after = buffers.1;
    }
