use Rattle.std.proofs.Common.{◌≡◌, map}
use Rattle.pb_object.proofs.assemble.split_resources.Given as goal

abbrev pub invariant-loop-row : goal.invariant-loop-row
invariant-loop-row l = record {
  names : map (λ name. name.items) l.names.items ≡ map (λ r. r.name.items) l.yielded;
  amounts : l.amounts.items ≡ map (λ r. r.capital) l.yielded;
}
