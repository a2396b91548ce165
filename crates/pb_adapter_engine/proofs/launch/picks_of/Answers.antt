use Rattle.std.proofs.Common.{subst, sym}
use Rattle.pb_code.specs.Limits.{KeepsLimits}
use Rattle.pb_code.specs.Whole.{Code}
use Rattle.pb_picks.specs.PickLines.{IsFaulty}
use Rattle.pb_verifier.specs.declared.fault.VerifyFault.TheVariants.{OutOfLimits}
use Rattle.pb_adapter_engine.proofs.launch.picks_of.Goals as goal

pub read_picks-requires : goal.read_picks-requires
read_picks-requires c = subst KeepsLimits (sym c.code.ensures.code) (c.code.ensures.verified.faultless OutOfLimits)

pub returns-in-Err-clause-fault : goal.returns-in-Err-clause-fault
returns-in-Err-clause-fault c =
    subst (λ (code : Code). IsFaulty code c.args.lines.now c.in-Err.fault) c.code.ensures.code c.in-Err.ensures.refused
