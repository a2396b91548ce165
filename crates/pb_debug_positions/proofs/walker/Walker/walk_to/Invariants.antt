use Rattle.std.proofs.Common.{◌-◌, ◌≤◌}
use Rattle.pb_base.specs.declared.lending.Lending.{Lending}
use Rattle.pb_debug_positions.specs.Walks.{WalksBy}
use Rattle.pb_history.specs.Entries.{picks_of}
use Rattle.pb_debug_positions.proofs.walker.Walker.walk_to.Given as goal

abbrev pub invariant-loop-self : goal.invariant-loop-self
invariant-loop-self l = record {
  walks : (lending : Lending) → WalksBy lending l.verified (picks_of l.trace.entries) l.initial.self → WalksBy lending l.verified (picks_of l.trace.entries) l.self;
  before : l.self.at ≤ l.to;
}

abbrev pub decreases-loop-self : goal.decreases-loop-self
decreases-loop-self l = l.to - l.self.at
