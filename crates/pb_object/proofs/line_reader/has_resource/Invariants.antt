use Rattle.std.proofs.Common.{◌≡◌, map, drop}
use Rattle.pb_code.specs.Names.{is_among}
use Rattle.pb_object.specs.Rows.{resource_row}
use Rattle.pb_object.proofs.line_reader.has_resource.Given as goal

abbrev pub invariant-loop-other : goal.invariant-loop-other
invariant-loop-other l = is_among (map (λ r. r.name) (map resource_row l.resources)) l.name ≡ is_among
    (map (λ r. r.name.items) (drop l.other-index l.resources)) l.name
