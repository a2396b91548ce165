use Rattle.pb_search_engine.proofs.SourceLaw.{fair_runs_of_programs_end}
use Rattle.pb_search_engine.proofs.laws.fair_runs_of_programs_end.Goals as goal

pub returns : goal.returns
returns c = fair_runs_of_programs_end
