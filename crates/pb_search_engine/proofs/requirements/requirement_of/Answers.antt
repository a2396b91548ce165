use Rattle.pb_search_engine.proofs.RequirementLemmas.{says_none}
use Rattle.pb_search_engine.proofs.requirements.requirement_of.Goals as goal

pub returns-in_err-amount-in-None : goal.returns-in_err-amount-in-None
returns-in_err-amount-in-None c = rw c.from_residual.ensures
    (says_none c.args.line.now c.in-None.ensures c.in_err-amount-in-None.ensures)
