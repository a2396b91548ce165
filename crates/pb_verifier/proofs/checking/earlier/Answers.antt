use Rattle.std.proofs.Common.{rules}
use Rattle.pb_verifier.proofs.checking.earlier.Goals as goal

pub returns-in-Some : goal.returns-in-Some
returns-in-Some c = search rules fits 100

pub returns-in_default : goal.returns-in_default
returns-in_default c = search rules fits 100
