use Rattle.std.proofs.Common.{◌≡◌, ◌-◌, ◌≤◌, [], length, map, All}
use Rattle.pb_object.specs.Lines.{many}
use Rattle.pb_object.specs.Reading.{place_at}
use Rattle.pb_object.specs.Rows.{side_by_side}
use Rattle.pb_code.specs.Bundles.{NamesBelow}
use Rattle.pb_code.specs.View.{instr_view}
use Rattle.pb_object.proofs.reader.places_of.Given as goal

abbrev pub invariant-loop : goal.invariant-loop
invariant-loop l = record {
  read : many (place_at l.format) (side_by_side l.lines.items (map (instr_view l.bundles.items) l.instrs.items))
      (l.count - l.counter) l.rest ≡ many (place_at l.format) [] l.count l.text;
  even : length l.lines.items ≡ length l.instrs.items;
  names : All (NamesBelow (length l.bundles.items)) l.instrs.items;
  few : length l.bundles.items ≤ l.counter;
}
