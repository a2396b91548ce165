use Rattle.pb_bank_engine.proofs.SessionParts.{sessions_part}
use Rattle.pb_bank_engine.proofs.laws.sessions_part.Goals as goal

pub returns : goal.returns
returns c = sessions_part
