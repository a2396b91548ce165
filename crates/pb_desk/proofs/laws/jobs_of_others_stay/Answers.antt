use Rattle.pb_desk.proofs.JournalLemmas.{jobs_of_others_stay}
use Rattle.pb_desk.proofs.laws.jobs_of_others_stay.Goals as goal

pub returns : goal.returns
returns c = jobs_of_others_stay
