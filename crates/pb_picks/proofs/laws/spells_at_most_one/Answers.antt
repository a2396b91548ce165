use Rattle.pb_picks.proofs.PickSpellings.{spells_at_most_one}
use Rattle.pb_picks.proofs.laws.spells_at_most_one.Goals as goal

pub returns : goal.returns
returns c = spells_at_most_one
