-- What a debugger is inside.
use Rattle.std.specs.Prelude.{◌+◌, ◌*◌, ◌<◌, ◌≤◌, length, option_map}
use Rattle.pb_base.specs.declared.limits.TheConstants.{MAX_PICKS}
use Rattle.pb_code.specs.Limits.{AreLabels}
use Rattle.pb_code.specs.View.{labels_view}
use Rattle.pb_history.specs.Entries.{picks_of}
use Rattle.pb_verifier.specs.Verified.{IsVerified}
use Rattle.pb_history.specs.Positions.{AreEnabledBy}
use Rattle.pb_debug_positions.specs.Intervals.{IsInterval}
use Rattle.pb_debug.specs.Value.{Debugging}
use Rattle.pb_debug_positions.specs.Walks.{AreCheckpoints, WalksBy}
use Rattle.pb_debug.specs.declared.debugger.Debugger.TheInside.{Inside}

-- what a contract sees of a debugger
abbrev pub view_of : Inside → Debugging
view_of d = record {
  lending = d.lending;
  verified = d.verified.now;
  labels = labels_view d.labels.now;
  picks = picks_of d.trace.entries;
  source = option_map (λ text. text.now) d.source;
  position = d.walker.at;
  last_cost = d.last_cost;
  interval = d.interval;
}

-- the code is verified; a machine that lends as it is to is at the position, and one at each multiple of the
-- distance up to the last
pub record IsSound (d : Inside) : Type 0 where
  pub verified : IsVerified d.verified.now
  pub enabled : AreEnabledBy d.lending d.verified.now.code (picks_of d.trace.entries)
  pub few : length (picks_of d.trace.entries) ≤ MAX_PICKS
  pub within : d.walker.at ≤ length (picks_of d.trace.entries)
  pub cheap : d.last_cost < d.interval
  pub fit : AreLabels d.verified.now.code (labels_view d.labels.now)
  pub spaced : IsInterval (length (picks_of d.trace.entries)) d.interval
  pub walks : WalksBy d.lending d.verified.now (picks_of d.trace.entries) d.walker
  pub checkpoints : AreCheckpoints d.lending d.verified.now (picks_of d.trace.entries) d.interval d.checkpoints.items
  pub enough : length (picks_of d.trace.entries) < length d.checkpoints.items * d.interval
  pub fewest : length d.checkpoints.items * d.interval ≤ length (picks_of d.trace.entries) + d.interval
