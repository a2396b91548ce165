use Rattle.std.proofs.Common.{◌≡◌, drop}
use Rattle.pb_bank.specs.Requests.{has_resource}
use Rattle.pb_bank.proofs.request.has.Given as goal

abbrev pub invariant-loop-i : goal.invariant-loop-i
invariant-loop-i l = has_resource l.bundle l.resource ≡ has_resource (drop l.i l.bundle) l.resource
