use Rattle.std.proofs.Common.{rules}
use Rattle.pb_names.proofs.causes.earlier.Goals as goal

pub returns-then-x-y : goal.returns-then-x-y
returns-then-x-y c = search rules fits 100

pub returns-else-x-y : goal.returns-else-x-y
returns-else-x-y c = search rules fits 100
