use Rattle.std.proofs.Common.{◌≡◌, map, drop}
use Rattle.pb_code.specs.Names.{is_among}
use Rattle.pb_object.proofs.line_reader.has_process.Given as goal

abbrev pub invariant-loop-other : goal.invariant-loop-other
invariant-loop-other l = is_among (map (λ p. p.name.items) l.processes) l.name ≡ is_among (map (λ p. p.name.items) (drop l.other-index l.processes)) l.name
