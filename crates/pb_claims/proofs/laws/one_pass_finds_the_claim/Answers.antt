use Rattle.pb_claims.proofs.OnePass.{is_claim}
use Rattle.pb_claims.proofs.laws.one_pass_finds_the_claim.Goals as goal

pub returns : goal.returns
returns c = is_claim
