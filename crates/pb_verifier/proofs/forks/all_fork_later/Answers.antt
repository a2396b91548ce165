use Rattle.std.proofs.Common.{arith, below_more, refl}
use Rattle.pb_verifier.proofs.forks.all_fork_later.Goals as goal

pub loop-arm-preserved : goal.loop-arm-preserved
loop-arm-preserved c = below_more _ _ c.loop-arm.invariant (c.if-not-forks_later.ensures.0 refl)

pub returns : goal.returns
returns c =
    let n = c.arm_count-arm-end.ensures in
    (λ _ arm u. c.loop-arm.invariant arm (omega arith), λ _. refl)
