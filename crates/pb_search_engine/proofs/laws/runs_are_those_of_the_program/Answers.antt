use Rattle.pb_search_engine.proofs.SourceLaw.{runs_are_those_of_the_program}
use Rattle.pb_search_engine.proofs.laws.runs_are_those_of_the_program.Goals as goal

pub returns : goal.returns
returns c = runs_are_those_of_the_program
