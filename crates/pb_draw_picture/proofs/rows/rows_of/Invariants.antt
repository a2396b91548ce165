use Rattle.std.proofs.Common.{◌≤◌, ◌+◌, ◌*◌, take}
use Rattle.pb_draw_picture.specs.Rows.{AreRowsOf, IsPile}
use Rattle.pb_draw_picture.specs.declared.sizes.TheConstants.{LOWEST, ROW_MOST, TOP}
use Rattle.pb_draw_picture.proofs.rows.rows_of.Given as goal

-- the rows of the lanes so far
abbrev pub invariant-loop-i : goal.invariant-loop-i
invariant-loop-i l = record {
  rows : AreRowsOf (take l.i l.lanes) l.bars l.rows.items;
  pile : IsPile TOP l.rows.items l.end;
  low : l.end ≤ TOP + l.i * ROW_MOST;
  lowest : l.end ≤ LOWEST;
}
