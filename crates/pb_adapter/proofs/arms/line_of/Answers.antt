use Rattle.std.proofs.Common.{sym, ap, ◌∙◌}
use Rattle.pb_adapter.specs.Values.{line_or_none}
use Rattle.pb_adapter.proofs.ArmLemmas.{arm_line, arm_missing, arm_there, small_arm}
use Rattle.pb_adapter.proofs.arms.line_of.Goals as goal

pub returns-in-Ok-Some-clause-some : goal.returns-in-Ok-Some-clause-some
returns-in-Ok-Some-clause-some c =
    let d = c.args.debugger.now in (
      arm_there d c.args.p c.args.arm c.in-Ok-Some.ensures.arm,
      sym (ap line_or_none c.in-Ok-Some.field-0-is)
          ∙ ap line_or_none (arm_line d c.args.p c.args.arm c.in-Ok-Some.field-0 c.in-Ok-Some.ensures.line),
    )

pub returns-in-Ok-None-clause-some : goal.returns-in-Ok-None-clause-some
returns-in-Ok-None-clause-some c =
    let d = c.args.debugger.now in (
      arm_there d c.args.p c.args.arm c.in-Ok-None.ensures.arm,
      sym (ap line_or_none c.in-Ok-None.field-0-is)
          ∙ ap line_or_none (arm_line d c.args.p c.args.arm c.in-Ok-None.field-0 c.in-Ok-None.ensures.line),
    )

pub returns-in-Ok-Some-clause-small : goal.returns-in-Ok-Some-clause-small
returns-in-Ok-Some-clause-small c =
    small_arm c.args.debugger.now c.position.ensures.placed c.args.p c.args.arm c.in-Ok-Some.ensures.arm

pub returns-in-Ok-None-clause-small : goal.returns-in-Ok-None-clause-small
returns-in-Ok-None-clause-small c =
    small_arm c.args.debugger.now c.position.ensures.placed c.args.p c.args.arm c.in-Ok-None.ensures.arm

pub returns-in-Err-clause-none : goal.returns-in-Err-clause-none
returns-in-Err-clause-none c =
    arm_missing c.args.debugger.now c.args.p c.args.arm c.in-Err.field-0 c.in-Err.ensures.refused
