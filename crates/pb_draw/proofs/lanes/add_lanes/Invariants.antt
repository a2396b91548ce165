use Rattle.std.proofs.Common.{◌≡◌, ◌++◌, map}
use Rattle.pb_draw.specs.Arms.{arms_before}
use Rattle.pb_history.specs.Entries.{picks_of}
use Rattle.pb_draw.specs.Drawings.{AreLanes}
use Rattle.pb_draw.specs.declared.drawing.Lane.{Lane}
use Rattle.pb_draw.proofs.lanes.add_lanes.Given as goal

abbrev pub invariant-loop-arm : goal.invariant-loop-arm
invariant-loop-arm l = record {
  lanes : AreLanes l.lending l.verified.code (picks_of l.trace.entries) l.lanes.items;
  arms : map (λ (lane : Lane). lane.pick) l.lanes.items ≡ map (λ (lane : Lane). lane.pick) l.fn.lanes.items ++ arms_before l.process l.arm;
}
