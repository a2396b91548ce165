use Rattle.std.proofs.Common.{rules}
use Rattle.pb_record.proofs.choice.below.Goals as goal

pub returns-clause-number : goal.returns-clause-number
returns-clause-number c = search rules fits 100
