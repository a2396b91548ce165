use Rattle.pb_codegen.proofs.ClaimsKept.{source_asks}
use Rattle.pb_codegen.proofs.laws.source_requests_stay_within_claims.Goals as goal

pub returns : goal.returns
returns c = source_asks
