use Rattle.std.proofs.Common.{◌≡◌, ◌<◌, ◌≤◌, ◌++◌, ℕ, Some, drop, length}
use Rattle.std.specs.Prelude.{slice_get}
use Rattle.pb_base.specs.declared.pick.Pick.{Pick}
use Rattle.pb_draw.specs.Bars as spec
use Rattle.pb_draw.specs.declared.drawing.Mark.{Mark}
use Rattle.pb_draw.proofs.bars.bars_of.Given as goal

-- the bars of the marks so far, and those of them that can be open after these marks
abbrev pub invariant-loop-i : goal.invariant-loop-i
invariant-loop-i l = record {
  same : spec.bars_of l.marks ≡ l.bars.items ++ spec.bars_from l.bars.items (drop l.i l.marks);
  held : (arm : Pick) (t : ℕ) → ((j : ℕ) (m : Mark) → j < l.i → slice_get l.marks j ≡ Some m → m.at ≤ t)
      → spec.open_holds arm t l.held.items ≡ spec.open_holds arm t l.bars.items;
  few : length l.held.items ≤ l.i;
}
