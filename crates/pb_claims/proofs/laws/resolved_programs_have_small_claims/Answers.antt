use Rattle.pb_claims.proofs.Bounds.{small_claims}
use Rattle.pb_claims.proofs.laws.resolved_programs_have_small_claims.Goals as goal

pub returns : goal.returns
returns c = small_claims
