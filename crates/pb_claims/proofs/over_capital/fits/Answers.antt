use Rattle.std.proofs.Common.{rules}
use Rattle.pb_claims.proofs.over_capital.fits.Goals as goal

pub returns-in-Some-clause-over : goal.returns-in-Some-clause-over
returns-in-Some-clause-over c = search rules fits 100
