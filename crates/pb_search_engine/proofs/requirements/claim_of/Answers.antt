use Rattle.pb_search_engine.specs.Requirements.{claim_text}
use Rattle.pb_search_engine.proofs.requirements.claim_of.Goals as goal

pub returns-in_err-rest : goal.returns-in_err-rest
returns-in_err-rest c = rw c.from_residual.ensures (λ amount name may. c.in_err-rest.ensures (claim_text amount name))
