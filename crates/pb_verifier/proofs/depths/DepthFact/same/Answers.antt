use Rattle.std.proofs.Common.{rules}
use Rattle.pb_verifier.proofs.depths.DepthFact.same.Goals as goal

pub returns : goal.returns
returns c = search rules fits 100
