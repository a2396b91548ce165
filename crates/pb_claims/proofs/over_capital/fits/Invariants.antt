use Rattle.std.proofs.Common.{ℕ, ◌<◌}
use Rattle.pb_claims.specs.Fits.{RowFits}
use Rattle.pb_claims.proofs.over_capital.fits.Given as goal

abbrev pub invariant-loop-p : goal.invariant-loop-p
invariant-loop-p l = (p : ℕ) → p < l.p → RowFits l.claims l.capital p
