use Rattle.std.proofs.Common.{◌≡◌, map}
use Rattle.pb_object.specs.Ranges.{plain_names}
use Rattle.pb_object.proofs.line_reader.plain_names.Given as goal

abbrev pub invariant-loop-number : goal.invariant-loop-number
invariant-loop-number l = map (λ name. name.items) l.names.items ≡ plain_names l.number
