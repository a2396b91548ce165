use Rattle.std.proofs.Common.{◌<◌, ◌≤◌, length, arith}
use Rattle.pb_verifier.specs.declared.fault.VerifyFault.TheVariants.{OutOfLimits}
use Rattle.pb_base.proofs.Lists.{get_some}
use Rattle.pb_draw.specs.Arms.{arms_from}
use Rattle.pb_draw.proofs.ArmSteps.{arms_over, arms_step, many_processes}
use Rattle.pb_draw.proofs.lanes.lanes_of.Goals as goal

pub loop-process-preserved : goal.loop-process-preserved
loop-process-preserved c =
    let code = c.args.verified.now.code in
    let many = many_processes c.code.result.now code c.code.ensures.code in
    let len = c.len-processes.ensures in
    let end = c.min-process-end.ensures in
    let test = c.loop-process-test.true in
    let within : c.loop-process.process < length code.processes = grind arith in
    let it = get_some code.processes c.loop-process.process within in
    record {
      lanes = c.in_ok-add_lanes.ensures.lanes;
      arms = arms_step (arms_from 0 code.processes) c.loop-process.lanes.items c.add_lanes.new.lanes.items code.processes
          c.loop-process.process it.0 c.loop-process.invariant.arms it.1 (c.in_ok-add_lanes.ensures.arms it.0 it.1);
    }

pub returns-clause-arms : goal.returns-clause-arms
returns-clause-arms c =
    let code = c.args.verified.now.code in
    let limits = c.code.ensures.verified.faultless OutOfLimits in
    let few = limits.some_processes.1 in
    let many = many_processes c.code.result.now code c.code.ensures.code in
    let len = c.len-processes.ensures in
    let end = c.min-process-end.ensures in
    let test = c.loop-process-test.false in
    let past : length code.processes ≤ c.loop-process.process = grind arith in
    arms_over (arms_from 0 code.processes) c.loop-process.lanes.items code.processes c.loop-process.process past c.loop-process.invariant.arms
