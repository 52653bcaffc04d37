-- `build` answers as its checks do, and else writes the vertices of the string that the points make, and their numbers. Assumes nothing.
use mathlib.Core.Path.{◌≡◌, ap, ◌∙◌}
use Prim.Native.Nat.{◌-◌, ◌*◌, ◌/◌, ◌≤◌}
use native.Mathlib.Omega.{arith}
use mathlib.Core.List.{List, ◌++◌}
use lib.ListN.{length, drop}
use Rattle.sphericalpoint.specs.declared.SphericalPoint.{SphericalPoint}
use Rattle.arcstring.specs.Points.{numbered, points, flat}
use Rattle.arcstring_build.specs.Build.{built_numbered, built_string, build}
use Rattle.arcstring_check.proofs.Answers.{left}
use Rattle.arcstring_check.proofs.Rooms.{rooms_hold}
use Rattle.arcstring_build.proofs.Builds.{kept_few, kept_length, kept_closed, kept_open, refused_build, accepted_whole, accepted_two}
use Rattle.arcstring_build.proofs.Builds.{accepted_buoys, build_short, build_done}
use Rattle.arcstring_build.proofs.build.build.Goals as goal
use Rattle.arcstring_build.proofs.build.build.Goals.{then-closed, else-closed}

pub returns-in_err-check_building : goal.returns-in_err-check_building
unfolding build
returns-in_err-check_building c =
    let whole = refused_build (built_numbered (numbered (points c.args.v.now) c.args.buoys.now)) c.args.v.now c.args.buoys.now c.args.out.now
    c.args.out_buoys.now _ c.in_err-check_building.ensures in
    record { result_value = left _ _ c.from_residual.ensures.1 ∙ whole.0; out_after = whole.1.0; out_buoys_after = whole.1.1 }

pub invariant_of-ends_meet : goal.invariant_of-ends_meet
invariant_of-ends_meet c = record { whole = accepted_whole _ c.args.buoys.now c.in_ok-check_building.ensures }

pub ends_meet-closed-requires : goal.ends_meet-closed-requires
ends_meet-closed-requires c = omega (arith, accepted_two c.args.v.now c.args.buoys.now c.in_ok-check_building.ensures)

pub overflow_sub-n : goal.overflow_sub-n
overflow_sub-n c =
    let two : 2 ≤ length c.args.v.now / 3 = accepted_two _ c.args.buoys.now c.in_ok-check_building.ensures in
    omega (arith, kept_few (length c.args.v.now / 3) c.ends_meet-closed.result (omega arith))

pub returns-in_err-check_rooms : goal.returns-in_err-check_rooms
unfolding build
returns-in_err-check_rooms c =
    let passed = c.in_ok-check_building.ensures in
    let m = length c.args.v.now / 3 - c.from.result in
    let count : length (built_string (points c.args.v.now)).vertices ≡ m =
    kept_length c.args.v.now _ m _ (accepted_whole _ c.args.buoys.now passed) c.ends_meet-closed.ensures
    (ap (λ k. length c.args.v.now / 3 - k) c.from.ensures) in
    let whole = build_short c.args.v.now c.args.buoys.now passed c.args.out.now c.args.out_buoys.now m count _ c.in_err-check_rooms.ensures in
    record {
      result_value = left _ _ c.from_residual-in_err-check_rooms.ensures.1 ∙ whole.0;
      out_after = whole.1.0;
      out_buoys_after = whole.1.1;
    }

pub build_closed-requires : goal.build_closed-requires
build_closed-requires c = (omega arith, (rooms_hold _ _ _ c.in_ok-check_rooms.ensures).0)

pub build_open-requires : goal.build_open-requires
build_open-requires c = (omega arith, (rooms_hold _ _ _ c.in_ok-check_rooms.ensures).0)

pub copy_items-requires : goal.copy_items-requires
copy_items-requires c =
    let as_many : length c.args.buoys.now ≡ length c.args.v.now / 3 = accepted_buoys _ _ c.in_ok-check_building.ensures in
    let fit = (rooms_hold _ _ _ c.in_ok-check_rooms.ensures).1 in
    (omega (arith, as_many), omega arith)

pub returns : goal.returns
unfolding build
returns c =
    let passed = c.in_ok-check_building.ensures in
    let all = accepted_whole _ c.args.buoys.now passed in
    let as_many : length c.args.buoys.now ≡ length c.args.v.now / 3 = accepted_buoys c.args.v.now c.args.buoys.now passed in
    let m = length c.args.v.now / 3 - c.from.result in
    let kept : m ≡ length c.args.v.now / 3 - mir.Val.bool_byte c.ends_meet-closed.result = ap (λ k. length c.args.v.now / 3 - k) c.from.ensures in
    let count : length (built_string (points c.args.v.now)).vertices ≡ m = kept_length c.args.v.now _ m _ all c.ends_meet-closed.ensures kept in
    let written : c.if-closed.out ≡ flat (built_string (points c.args.v.now)).vertices ++ drop (3 * m) c.args.out.now =
    elim c.if-closed.branch [
      | then-closed w ↦ w.out-is ∙ w.build_closed.ensures ∙ ap (λ (ps : List SphericalPoint). flat ps ++ drop (3 * m) c.args.out.now)
          (kept_closed c.args.v.now _ m _ all c.ends_meet-closed.ensures kept w.if-closed.true)
      | else-closed w ↦ w.out-is ∙ w.build_open.ensures ∙ ap (λ (ps : List SphericalPoint). flat ps ++ drop (3 * m) c.args.out.now)
          (kept_open c.args.v.now _ m _ all c.ends_meet-closed.ensures kept w.if-closed.false)
    ] in
    let whole = build_done c.args.v.now c.args.buoys.now passed c.args.out.now c.args.out_buoys.now m count c.ends_meet-closed.result _ _
    c.in_ok-check_rooms.ensures c.ends_meet-closed.ensures (omega (arith, as_many)) written c.copy_items.ensures in
    record { result_value = whole.0; out_after = whole.1.0; out_buoys_after = whole.1.1 }
