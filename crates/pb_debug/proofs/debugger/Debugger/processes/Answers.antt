use Rattle.std.proofs.Common.{arith}
use Rattle.pb_verifier.specs.declared.fault.VerifyFault.TheVariants.{OutOfLimits}
use Rattle.pb_debug.proofs.Positions.{as_many}
use Rattle.pb_debug.proofs.debugger.Debugger.processes.Goals as goal

pub returns-clause-few : goal.returns-clause-few
returns-clause-few c =
    let d = c.args.self.now in
    let h = c.position.ensures.placed in
    let many = as_many d h in
    let few = ((h.verified.faultless OutOfLimits).some_processes).1 in
    omega (arith, many, few)
