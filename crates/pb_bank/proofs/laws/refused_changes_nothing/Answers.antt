use Rattle.pb_bank.proofs.RefusedDesks.{refused_changes_nothing}
use Rattle.pb_bank.proofs.laws.refused_changes_nothing.Goals as goal

pub returns : goal.returns
returns c = refused_changes_nothing
