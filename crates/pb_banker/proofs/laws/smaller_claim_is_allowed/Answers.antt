use Rattle.pb_banker.proofs.ChangedClaims.{smaller_claim_is_allowed}
use Rattle.pb_banker.proofs.laws.smaller_claim_is_allowed.Goals as goal

pub returns : goal.returns
returns c = smaller_claim_is_allowed
