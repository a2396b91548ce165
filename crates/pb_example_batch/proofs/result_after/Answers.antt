use Rattle.std.proofs.Common.{rules}
use Rattle.pb_example_batch.proofs.result_after.Goals as goal

pub returns-in_default : goal.returns-in_default
returns-in_default c = search rules fits 100
