use Rattle.std.proofs.Common.{take}
use Rattle.pb_picks.specs.PickLines.{Lacks}
use Rattle.pb_search_engine.proofs.print_lines.split_first.Given as goal

abbrev pub invariant-loop-end : goal.invariant-loop-end
invariant-loop-end l = Lacks l.mark (take l.end l.text)
