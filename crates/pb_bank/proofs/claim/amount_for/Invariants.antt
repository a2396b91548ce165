use Rattle.std.proofs.Common.{◌≡◌, drop}
use Rattle.pb_bank.specs.Claims.{amount_for}
use Rattle.pb_bank.proofs.claim.amount_for.Given as goal

abbrev pub invariant-loop-i : goal.invariant-loop-i
invariant-loop-i l = amount_for l.bundle l.resource ≡ amount_for (drop l.i l.bundle) l.resource
