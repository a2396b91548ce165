use Rattle.std.proofs.Common.{◌≡◌, ◌*◌, ◌≤◌, take}
use Rattle.pb_base.specs.Bundle.{amount_in}
use Rattle.pb_claims.proofs.peaks.amount_of.Given as goal

abbrev pub invariant-loop-i : goal.invariant-loop-i
invariant-loop-i l = (l.total ≡ amount_in (take l.i l.bundle) l.resource) × (l.total ≤ 4294967295 * l.i)
