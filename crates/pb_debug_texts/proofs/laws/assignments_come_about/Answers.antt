use Rattle.pb_debug_texts.proofs.ComingAbout.{assignments_come_about}
use Rattle.pb_debug_texts.proofs.laws.assignments_come_about.Goals as goal

pub returns : goal.returns
returns c = assignments_come_about
