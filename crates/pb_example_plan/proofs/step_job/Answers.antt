use Rattle.std.proofs.Common.{◌∙◌, arith, None, refl, Some, subst}
use Rattle.pb_base.specs.declared.lending.Lending.TheVariants.{ByBanker}
use Rattle.pb_code.specs.Reached.{CodeMoves, CodeStays}
use Rattle.pb_machine.specs.Views.{machine_view}
use Rattle.pb_example_plan.proofs.TriedPicks.{one_more_arm}
use Rattle.pb_example_plan.proofs.step_job.Goals as goal
use Rattle.pb_machine.proofs.Counts.{few_arms}

pub overflow_cast-pick : goal.overflow_cast-pick
overflow_cast-pick c =
    let few = few_arms c.args.verified.now c.requires.verified c.args.machine.now c.requires.machine c.from.result _ c.proc.ensures.state in
    omega (arith, few)

pub loop-arm-preserved : goal.loop-arm-preserved
loop-arm-preserved c =
    let before = c.loop-arm.invariant in
    let stays = c.in-NotEnabled.ensures.step ByBanker before.2 in (
      one_more_arm c.args.verified.now.code (machine_view c.args.machine.now) c.args.job c.loop-arm.arm (record {
        process = c.args.job;
        arm = c.loop-arm.arm;
      }) before.0 refl refl
          (subst (λ s. CodeStays c.args.verified.now.code s (record { process = c.args.job; arm = c.loop-arm.arm })) before.1 stays.0),
      stays.1 ∙ before.1,
      c.step.ensures.machine ByBanker before.2,
    )

pub returns-in-Silent-clause-step : goal.returns-in-Silent-clause-step
returns-in-Silent-clause-step c =
    let before = c.loop-arm.invariant in (
      record { process = c.args.job; arm = c.loop-arm.arm },
      refl,
      subst (λ s. CodeMoves c.args.verified.now.code s (record { process = c.args.job; arm = c.loop-arm.arm }) None
          (machine_view c.step.new.self)) before.1 (c.in-Silent.ensures.step ByBanker before.2),
    )

pub returns-in-Did-clause-step : goal.returns-in-Did-clause-step
returns-in-Did-clause-step c =
    let before = c.loop-arm.invariant in (
      record { process = c.args.job; arm = c.loop-arm.arm },
      refl,
      subst (λ s. CodeMoves c.args.verified.now.code s (record { process = c.args.job; arm = c.loop-arm.arm }) (Some c.in-Did.event)
          (machine_view c.step.new.self)) before.1 (c.in-Did.ensures.step ByBanker before.2),
    )
