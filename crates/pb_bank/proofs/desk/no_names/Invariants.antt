use Rattle.std.proofs.Common.{◌≡◌, [], map, replicate}
use Rattle.pb_bank.proofs.desk.no_names.Given as goal

abbrev pub invariant-loop : goal.invariant-loop
invariant-loop l = map (λ name. name.items) l.names.items ≡ replicate l.counter []
