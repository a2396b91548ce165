use Rattle.pb_machine.proofs.EitherLending.{as_under_banker}
use Rattle.pb_machine.proofs.laws.processes_are_as_under_banker.Goals as goal

pub returns : goal.returns
returns c = as_under_banker
