use Rattle.pb_desk.proofs.JournalLemmas.{carried_out_once}
use Rattle.pb_desk.proofs.laws.requests_are_carried_out_once.Goals as goal

pub returns : goal.returns
returns c = carried_out_once
