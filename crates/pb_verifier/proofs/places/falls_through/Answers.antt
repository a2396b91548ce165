use Rattle.std.proofs.Common.{rules}
use Rattle.pb_verifier.proofs.places.falls_through.Goals as goal

pub returns : goal.returns
returns c = search rules fits 100
