use Rattle.std.proofs.Common.{◌≡◌, ◌+◌, ◌-◌, ◌↔◌, arith}
use Rattle.pb_code.specs.View.{process_view}
use Rattle.pb_verifier.specs.Arms.{Closes, IsClosed}
use Rattle.pb_verifier.specs.Given.{plain}
use Rattle.pb_verifier.specs.Places.{arm_end}
use Rattle.pb_verifier.proofs.ArmOrder.{arm_lies, closed_by}
use Rattle.pb_verifier.proofs.arms.is_closed.Goals as goal

pub overflow_sub-end_of_arm : goal.overflow_sub-end_of_arm
overflow_sub-end_of_arm c =
    let lies = arm_lies (process_view c.args.code.now) c.requires.rise c.args.arm c.requires.arm in
    let e = c.end_of_arm.ensures in
    omega arith

pub instr_at-requires : goal.instr_at-requires
instr_at-requires c =
    let lies = arm_lies (process_view c.args.code.now) c.requires.rise c.args.arm c.requires.arm in
    let e = c.end_of_arm.ensures in
    omega arith

pub returns : goal.returns
returns c =
    let lies = arm_lies (process_view c.args.code.now) c.requires.rise c.args.arm c.requires.arm in
    let e = c.end_of_arm.ensures in
    let last : (c.end_of_arm.result - 1) + 1 ≡ arm_end (process_view c.args.code.now) c.args.arm = omega arith in
    let by_last : Closes (plain c.args.code.now c.instr_at.result) ↔ IsClosed (process_view c.args.code.now) c.args.arm =
    closed_by (process_view c.args.code.now) c.args.arm (c.end_of_arm.result - 1) (plain c.args.code.now c.instr_at.result) last c.instr_at.ensures
    in
    let h = c.closes.ensures c.args.code.now.bundles.items in
    (λ t. by_last.0 (h.0 t), λ closed. h.1 (by_last.1 closed))
