use Rattle.pb_machine.proofs.ReadyArms.{live_arms_step}
use Rattle.pb_machine.proofs.laws.live_arms_step.Goals as goal

pub returns : goal.returns
returns c = live_arms_step
