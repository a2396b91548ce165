use Rattle.pb_desk.proofs.JournalLemmas.{journals_go_on}
use Rattle.pb_desk.proofs.laws.journals_go_on.Goals as goal

pub returns : goal.returns
returns c = journals_go_on
