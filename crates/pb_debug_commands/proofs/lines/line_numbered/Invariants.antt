use Rattle.std.proofs.Common.{◌≡◌, ◌≤◌, length}
use Rattle.pb_debug_commands.specs.Lines.{line_numbered}
use Rattle.pb_debug_commands.proofs.lines.line_numbered.Given as goal

abbrev pub invariant-loop-left : goal.invariant-loop-left
invariant-loop-left l = record {
  same : line_numbered l.rest l.left ≡ line_numbered l.text l.number;
  short : length l.rest ≤ length l.text;
}

abbrev pub decreases-loop-left : goal.decreases-loop-left
decreases-loop-left l = l.left
