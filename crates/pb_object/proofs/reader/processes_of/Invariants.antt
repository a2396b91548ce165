use Rattle.std.proofs.Common.{◌≡◌, ◌-◌, [], map, All}
use Rattle.pb_object.specs.Lines.{many}
use Rattle.pb_object.specs.Reading.{process_at}
use Rattle.pb_object.specs.Rows.{process_row, IsRow}
use Rattle.pb_object.proofs.reader.processes_of.Given as goal

abbrev pub invariant-loop : goal.invariant-loop
invariant-loop l = record {
  read : many (process_at l.format l.resources) (map process_row l.processes.items) (l.count - l.counter) l.rest ≡
      many (process_at l.format l.resources) [] l.count l.text;
  fit : All IsRow l.processes.items;
}
