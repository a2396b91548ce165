use Rattle.pb_history.proofs.SpansOfEntries.{silent_added}
use Rattle.pb_history.proofs.laws.silent_picks_add_one_span.Goals as goal

pub returns : goal.returns
returns c = silent_added
