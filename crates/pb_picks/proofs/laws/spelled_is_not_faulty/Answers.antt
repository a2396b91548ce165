use Rattle.pb_picks.proofs.PickSpellings.{spelled_is_not_faulty}
use Rattle.pb_picks.proofs.laws.spelled_is_not_faulty.Goals as goal

pub returns : goal.returns
returns c = spelled_is_not_faulty
