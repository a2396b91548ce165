use Rattle.pb_object.proofs.SpellingLaws.{same_object}
use Rattle.pb_object.proofs.laws.no_proper_prefix.Goals as goal

pub returns : goal.returns
returns c = λ f g d e l m text more s t. (same_object f g d e l m text more s t).1
