use Rattle.std.proofs.Common.{◌≡◌, ◌≤◌}
use Rattle.pb_history.specs.Entries.{picks_of}
use Rattle.pb_draw.specs.Accesses as spec
use Rattle.pb_history.specs.Positions.{IsAfterBy}
use Rattle.pb_draw.proofs.accesses.accesses_of.Given as goal

-- the assignments and the reads of the picks so far
abbrev pub invariant-loop-at : goal.invariant-loop-at
invariant-loop-at l = record {
  stands : IsAfterBy l.fn.lending l.verified (picks_of l.trace.entries) l.at l.machine;
  few : l.assignments ≤ l.at;
  few_reads : l.reads ≤ l.at;
  assignments : l.assignments ≡ spec.assignments l.verified.code (picks_of l.trace.entries) l.at;
  reads : l.reads ≡ spec.reads l.verified.code (picks_of l.trace.entries) l.at;
}
