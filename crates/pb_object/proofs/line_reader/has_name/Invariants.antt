use Rattle.std.proofs.Common.{◌≡◌, map, drop}
use Rattle.pb_code.specs.Names.{is_among}
use Rattle.pb_object.proofs.line_reader.has_name.Given as goal

abbrev pub invariant-loop-other : goal.invariant-loop-other
invariant-loop-other l = is_among (map (λ n. n.items) l.names) l.name ≡ is_among (map (λ n. n.items) (drop l.other-index l.names)) l.name
