use Rattle.pb_search_engine.proofs.ExpectedSource.{right_of_programs}
use Rattle.pb_search_engine.proofs.laws.answers_are_right_of_programs.Goals as goal

pub returns : goal.returns
returns c = right_of_programs
