use Rattle.std.proofs.Common.{◌≡◌, ◌-◌, map, []}
use Rattle.pb_object.specs.Lines.{many}
use Rattle.pb_object.specs.Reading.{resource_at}
use Rattle.pb_object.specs.Rows.{resource_row}
use Rattle.pb_object.proofs.reader.resources_of.Given as goal

abbrev pub invariant-loop : goal.invariant-loop
invariant-loop l = many resource_at (map resource_row l.resources.items) (l.count - l.counter) l.rest ≡ many resource_at [] l.count l.text
