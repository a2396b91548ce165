use Rattle.std.proofs.Common.{◌≡◌, map}
use Rattle.pb_object.proofs.assemble.split_processes.Given as goal

abbrev pub invariant-loop-row : goal.invariant-loop-row
invariant-loop-row l = record {
  names : map (λ name. name.items) l.columns.names.items ≡ map (λ p. p.name.items) l.yielded;
  claims : map (λ row. row.items) l.columns.claims.items ≡ map (λ p. p.claims.items) l.yielded;
  codes : l.columns.codes.items ≡ map (λ p. p.code) l.yielded;
  labels : l.columns.labels.items ≡ map (λ p. p.labels) l.yielded;
}
