use Rattle.std.proofs.Common.{◌≡◌, ◌<◌, ◌++◌, ℕ, List, get_or, rules, length, map, ap, sym, ◌∙◌, subst, arith}
use Rattle.pb_verifier.specs.declared.fault.VerifyFault.TheVariants.{OutOfLimits}
use Rattle.pb_draw.specs.Arms.{arms_before}
use Rattle.pb_history.specs.Entries.{picks_of}
use Rattle.pb_draw.specs.Drawings.{AreLanes}
use Rattle.pb_draw.specs.declared.drawing.Lane.{Lane}
use Rattle.pb_draw.proofs.ArmSteps.{arms_push, many_arms, many_processes}
use Rattle.pb_draw.proofs.LaneSteps.{lanes_more}
use Rattle.pb_draw.proofs.lanes.add_lanes.Goals as goal

pub loop-arm-preserved : goal.loop-arm-preserved
loop-arm-preserved c =
    let code = c.args.verified.now.code in
    let picks = picks_of c.args.trace.now.entries in
    let lane = c.in_ok-lane.lane in
    record {
      lanes = subst (λ (lanes : List Lane). AreLanes c.args.lending code picks lanes) (sym c.in_ok-push.ensures.items)
          (lanes_more c.args.lending code picks c.loop-arm.lanes.items lane c.loop-arm.invariant.lanes c.in_ok-lane.ensures.lane);
      arms = ap (map (λ (l : Lane). l.pick)) c.in_ok-push.ensures.items
          ∙ arms_push (map (λ (l : Lane). l.pick) c.args.lanes.now.items) c.loop-arm.lanes.items lane c.args.process c.loop-arm.arm
          c.loop-arm.invariant.arms c.in_ok-lane.ensures.arm;
    }

pub returns-clause-arms : goal.returns-clause-arms
returns-clause-arms c = λ code there.
    let limits = c.code.ensures.verified.faultless OutOfLimits in
    let few = (limits.each c.args.process code there).some_arms.1 in
    let all = many_processes c.code.result.now c.args.verified.now.code c.code.ensures.code in
    let within : c.args.process < length c.code.result.now.processes.items = (let some = c.requires.process in omega (arith, all, some)) in
    let at : c.index.result.now ≡ get_or c.code.result.now.processes.items c.args.process c.index.result.now = search rules in
    let many : length code.entries ≡ length c.index.result.now.entries.items =
    many_arms c.code.result.now c.args.verified.now.code c.args.process c.index.result.now code c.code.ensures.code within at there in
    let len = c.len-arms.ensures in
    let end = c.min-arm-end.ensures in
    let test = c.loop-arm-test.false in
    let past = c.loop-arm.auto.arm-end in
    let e : c.loop-arm.arm ≡ length code.entries = grind arith in
    c.loop-arm.invariant.arms ∙ ap (λ (n : ℕ). map (λ (l : Lane). l.pick) c.args.lanes.now.items ++ arms_before c.args.process n) e
