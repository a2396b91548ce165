use Rattle.std.proofs.Common.{rules}
use Rattle.pb_verifier.proofs.ends.is_clear.Goals as goal

pub returns-in-Some-holding : goal.returns-in-Some-holding
returns-in-Some-holding c = search rules fits 100
