use Rattle.pb_object.proofs.SpellingLaws.{answered}
use Rattle.pb_object.proofs.laws.read_again.Goals as goal

pub returns : goal.returns
returns c = answered
