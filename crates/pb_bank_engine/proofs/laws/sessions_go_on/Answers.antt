use Rattle.pb_bank_engine.proofs.SessionParts.{sessions_go_on}
use Rattle.pb_bank_engine.proofs.laws.sessions_go_on.Goals as goal

pub returns : goal.returns
returns c = sessions_go_on
