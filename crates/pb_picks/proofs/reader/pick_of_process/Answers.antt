use Rattle.pb_picks.specs.PickLines.{arm_and_count}
use Rattle.pb_picks.proofs.PickParts.{same_rest}
use Rattle.pb_picks.proofs.reader.pick_of_process.Goals as goal

pub returns-in_err-arm : goal.returns-in_err-arm
returns-in_err-arm c = rw c.from_residual-in_err-arm.ensures (λ arm count within some few e.
    c.in_err-arm.ensures arm count within some few
    (same_rest c.args.line.now c.args.name.now c.in_ok-rest.rest.now (arm_and_count arm count) c.in_ok-rest.ensures e))
