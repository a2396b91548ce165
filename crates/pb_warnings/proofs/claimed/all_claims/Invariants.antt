use Rattle.std.proofs.Common.{◌≡◌, ◌≤◌, ◌*◌, take}
use Rattle.pb_warnings.specs.Warnings.{all_claims}
use Rattle.pb_warnings.proofs.claimed.all_claims.Given as goal

abbrev pub invariant-loop-p : goal.invariant-loop-p
invariant-loop-p l = record {
  value : l.total ≡ all_claims (take l.p l.claims) l.resource;
  small : l.total ≤ 18446744073709551615 * l.p;
}
