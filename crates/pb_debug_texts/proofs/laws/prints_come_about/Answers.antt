use Rattle.pb_debug_texts.proofs.ComingAbout.{prints_come_about}
use Rattle.pb_debug_texts.proofs.laws.prints_come_about.Goals as goal

pub returns : goal.returns
returns c = prints_come_about
