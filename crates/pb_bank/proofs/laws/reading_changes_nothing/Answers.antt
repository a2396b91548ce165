use Rattle.pb_bank.proofs.ReadingDesks.{reading_changes_nothing}
use Rattle.pb_bank.proofs.laws.reading_changes_nothing.Goals as goal

pub returns : goal.returns
returns c = reading_changes_nothing
