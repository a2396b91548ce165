use Rattle.std.proofs.Common.{rules}
use Rattle.pb_parser.proofs.nesting.nests_too_deep.Goals as goal

pub returns-then-opens_too_many : goal.returns-then-opens_too_many
returns-then-opens_too_many c = search rules fits 100

pub returns-else-opens_too_many : goal.returns-else-opens_too_many
returns-else-opens_too_many c = search rules fits 100
