use Rattle.pb_search_engine.proofs.SourceLaw.{outcomes_are_those_of_the_program}
use Rattle.pb_search_engine.proofs.laws.outcomes_are_those_of_the_program.Goals as goal

pub returns : goal.returns
returns c = outcomes_are_those_of_the_program
