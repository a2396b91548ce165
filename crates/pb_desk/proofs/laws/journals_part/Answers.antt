use Rattle.pb_desk.proofs.JournalLemmas.{journals_part}
use Rattle.pb_desk.proofs.laws.journals_part.Goals as goal

pub returns : goal.returns
returns c = journals_part
