use Rattle.pb_verifier.proofs.laws.verified_code_keeps_the_limits.Goals as goal
use Rattle.pb_verifier.specs.declared.fault.VerifyFault.TheVariants.{OutOfLimits}

pub returns : goal.returns
returns c = record {
  limits = λ v verified. verified.faultless OutOfLimits;
  pushes = λ v verified. verified.pushes;
}
