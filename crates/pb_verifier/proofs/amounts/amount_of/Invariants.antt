use Rattle.std.proofs.Common.{◌≡◌, ◌≤◌, ◌*◌, take}
use Rattle.pb_base.specs.Bundle.{amount_in}
use Rattle.pb_code.specs.Bundles.{bundle_of}
use Rattle.pb_verifier.proofs.amounts.amount_of.Given as goal

abbrev pub invariant-loop-i : goal.invariant-loop-i
invariant-loop-i l = record {
  value : l.amount ≡ amount_in (take l.i (bundle_of l.code l.bundle)) l.resource;
  small : l.amount ≤ 4294967295 * l.i;
}
