use Rattle.pb_object.proofs.SpellingLaws.{same_code}
use Rattle.pb_object.proofs.laws.one_code.Goals as goal

pub returns : goal.returns
returns c = same_code
