use Rattle.std.proofs.Common.{ℕ, ◌<◌, ◌≤◌, get_or}
use Rattle.pb_base.specs.Banker.{cell}
use Rattle.pb_verifier.proofs.range.fits_capital.Given as goal

abbrev pub invariant-loop-r : goal.invariant-loop-r
invariant-loop-r l = (r : ℕ) → r < l.r → cell l.code.claims l.p r ≤ get_or l.code.capital r 0
