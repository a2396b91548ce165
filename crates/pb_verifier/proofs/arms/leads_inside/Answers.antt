use Rattle.std.proofs.Common.{rules}
use Rattle.pb_verifier.proofs.arms.leads_inside.Goals as goal

pub returns-else-begin-to : goal.returns-else-begin-to
returns-else-begin-to c = search rules fits 100
