use Rattle.std.proofs.Common.{◌≡◌, length, take}
use Rattle.pb_verifier.specs.Flow.{with_marks, with_places}
use Rattle.pb_verifier.proofs.reach.visit_entries.Given as goal

abbrev pub invariant-loop-entry : goal.invariant-loop-entry
invariant-loop-entry l = record {
  sized : length l.found.items ≡ length l.initial.found.items;
  found : l.found.items ≡ with_marks l.initial.found.items (take l.entry-index l.entries);
  order : l.order.items ≡ with_places l.initial.found.items l.initial.order.items (take l.entry-index l.entries);
}
