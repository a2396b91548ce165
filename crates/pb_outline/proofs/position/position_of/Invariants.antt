use Rattle.std.proofs.Common.{◌≡◌, ◌≤◌}
use Rattle.pb_outline.specs.Positions.{position_of}
use Rattle.pb_outline.proofs.position.position_of.Given as goal

abbrev pub invariant-loop-i : goal.invariant-loop-i
invariant-loop-i l = record {
  value : l.position ≡ position_of l.text l.i;
  line : l.position.line ≤ l.i;
  character : l.position.character ≤ l.i;
}
