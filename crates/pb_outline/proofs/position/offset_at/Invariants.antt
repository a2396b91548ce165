use Rattle.std.proofs.Common.{◌≡◌, ◌≤◌}
use Rattle.pb_outline.specs.Positions.{last_below, position_of}
use Rattle.pb_outline.proofs.Offsets.{reaches}
use Rattle.pb_outline.proofs.position.offset_at.Given as goal

abbrev pub invariant-loop-i : goal.invariant-loop-i
invariant-loop-i l = record {
  value : l.here ≡ position_of l.text l.i;
  line : l.here.line ≤ l.i;
  character : l.here.character ≤ l.i;
  found : l.found ≡ last_below (reaches l.text l.position) l.i;
}
