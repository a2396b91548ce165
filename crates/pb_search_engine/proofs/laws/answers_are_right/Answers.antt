use Rattle.pb_search_engine.proofs.ExpectedLaw.{answers_are_right}
use Rattle.pb_search_engine.proofs.laws.answers_are_right.Goals as goal

pub returns : goal.returns
returns c = answers_are_right
