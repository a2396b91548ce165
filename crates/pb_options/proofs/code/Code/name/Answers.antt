use Rattle.std.proofs.Common.{rules}
use Rattle.pb_options.proofs.code.Code.name.Goals as goal

pub returns-in-N3 : goal.returns-in-N3
returns-in-N3 c = search rules fits 100
