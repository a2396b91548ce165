use Rattle.std.proofs.Common.{rules}
use Rattle.pb_verifier.proofs.range.uses_what_is_there.Goals as goal

pub returns-in-Load : goal.returns-in-Load
returns-in-Load c = search rules fits 100
