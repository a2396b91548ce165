use Rattle.pb_accept.proofs.AcceptLemmas.{compiled_is_accepted}
use Rattle.pb_accept.proofs.check.accept.Goals as goal

pub returns-in-Ok-clause-accepted : goal.returns-in-Ok-clause-accepted
returns-in-Ok-clause-accepted g c = compiled_is_accepted _ _ _ c.in-Ok.ensures.compiled
