use Rattle.std.proofs.Common.{subst, sym}
use Rattle.pb_code.specs.Limits.{KeepsLimits}
use Rattle.pb_verifier.specs.declared.fault.VerifyFault.TheVariants.{OutOfLimits}
use Rattle.pb_runtime_tests.proofs.picks.written_and_read.Goals as goal

pub read_picks-requires : goal.read_picks-requires
read_picks-requires c = subst KeepsLimits (sym c.code-code.ensures.code) (c.code-code.ensures.verified.faultless OutOfLimits)
