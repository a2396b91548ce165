use Rattle.std.proofs.Common.{◌≡◌, ◌++◌, map, drop}
use Rattle.pb_draw.specs.Arms.{arms_from}
use Rattle.pb_history.specs.Entries.{picks_of}
use Rattle.pb_draw.specs.Drawings.{AreLanes}
use Rattle.pb_draw.specs.declared.drawing.Lane.{Lane}
use Rattle.pb_draw.proofs.lanes.lanes_of.Given as goal

abbrev pub invariant-loop-process : goal.invariant-loop-process
invariant-loop-process l = record {
  lanes : AreLanes l.lending l.verified.code (picks_of l.trace.entries) l.lanes.items;
  arms : map (λ (lane : Lane). lane.pick) l.lanes.items ++ arms_from l.process (drop l.process l.verified.code.processes)
      ≡ arms_from 0 l.verified.code.processes;
}
