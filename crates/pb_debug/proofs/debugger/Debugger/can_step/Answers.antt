use Rattle.std.proofs.Common.{arith}
use Rattle.pb_verifier.specs.declared.fault.VerifyFault.TheVariants.{OutOfLimits}
use Rattle.pb_debug.proofs.Positions.{few_arms, in_code}
use Rattle.pb_debug.proofs.debugger.Debugger.can_step.Goals as goal

pub overflow_cast-pick : goal.overflow_cast-pick
overflow_cast-pick c =
    let d = c.args.self.now in
    let h = c.position.ensures.placed in
    let lt = in_code d h c.args.p c.requires.0 c.requires.1 in
    let few = (h.verified.faultless OutOfLimits).some_processes.1 in
    omega (arith, lt, few)

pub overflow_cast-pick-2 : goal.overflow_cast-pick-2
overflow_cast-pick-2 c =
    let few = few_arms c.args.self.now c.position.ensures.placed c.args.p c.requires.0 c.requires.1 in
    let lt = c.requires.2 in
    omega (arith, lt, few)
