use Rattle.std.proofs.Common.{◌≡◌, ◌-◌, []}
use Rattle.pb_object.specs.Lines.{many}
use Rattle.pb_object.specs.Reading.{entry_at}
use Rattle.pb_object.proofs.reader.entries_of.Given as goal

abbrev pub invariant-loop : goal.invariant-loop
invariant-loop l = many entry_at l.entries.items (l.count - l.counter) l.rest ≡ many entry_at [] l.count l.text
