use Rattle.std.proofs.Common.{rules}
use Rattle.pb_sources.proofs.is_object.Goals as goal

pub returns : goal.returns
returns c = search rules fits 100
