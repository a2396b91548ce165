use Rattle.std.proofs.Common.{subst, sym}
use Rattle.pb_claims.proofs.OnePass.{is_claim}
use Rattle.pb_names.specs.Claims.{IsClaim}
use Rattle.pb_plan.proofs.Weights.{block_weight}
use Rattle.pb_plan.proofs.laws.parts_make_up_the_claim.Goals as goal

pub returns : goal.returns
returns c = λ process r. subst (IsClaim process r) (sym (block_weight r process.body)) (is_claim process r)
