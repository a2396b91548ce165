use Rattle.pb_banker.proofs.ChangedClaims.{fewer_claims_stay_safe}
use Rattle.pb_banker.proofs.laws.fewer_claims_stay_safe.Goals as goal

pub returns : goal.returns
returns c = fewer_claims_stay_safe
