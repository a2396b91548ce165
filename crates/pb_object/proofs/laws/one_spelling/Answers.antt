use Rattle.pb_object.proofs.SpellingLaws.{same_text, same_first}
use Rattle.pb_object.proofs.laws.one_spelling.Goals as goal

pub returns : goal.returns
returns c = record { both = same_text; first = same_first }
