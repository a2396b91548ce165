use Rattle.std.proofs.Common.{◌≡◌}
use Rattle.pb_history.specs.Entries.{picks_of}
use Rattle.pb_draw.specs.Cash.{ShowsCash, cash_after}
use Rattle.pb_history.specs.Positions.{IsAfterBy}
use Rattle.pb_draw.proofs.cash.cash_curve.Given as goal

-- the cash up to this position
abbrev pub invariant-loop-i : goal.invariant-loop-i
invariant-loop-i l = record {
  stands : IsAfterBy l.fn.lending l.verified (picks_of l.trace.entries) l.i l.machine;
  last : l.last ≡ cash_after l.verified.code (picks_of l.trace.entries) l.r l.i;
  curve : ShowsCash (cash_after l.verified.code (picks_of l.trace.entries) l.r) l.i l.steps.items;
}
