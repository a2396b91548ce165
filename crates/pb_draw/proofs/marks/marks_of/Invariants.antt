use Rattle.std.proofs.Common.{◌≡◌}
use Rattle.pb_history.specs.Entries.{picks_of}
use Rattle.pb_code.specs.View.{labels_view}
use Rattle.pb_draw.specs.Marks.{marks_before}
use Rattle.pb_history.specs.Positions.{IsAfterBy}
use Rattle.pb_draw.proofs.marks.marks_of.Given as goal

-- the marks of the picks so far
abbrev pub invariant-loop-at : goal.invariant-loop-at
invariant-loop-at l = record {
  stands : IsAfterBy l.fn.lending l.verified (picks_of l.trace.entries) l.at l.machine;
  marks : l.marks.items ≡ marks_before l.fn.integers l.verified.code (labels_view l.labels) (picks_of l.trace.entries) l.at;
}
