use Rattle.std.proofs.Common.{◌≡◌, ◌+◌, drop}
use Rattle.pb_names.specs.Source.{find_among}
use Rattle.pb_rewrite.specs.View.{running_view}
use Rattle.pb_rewrite.proofs.arm.+find_line.Given as goal

abbrev pub invariant-loop-i : goal.invariant-loop-i
invariant-loop-i g l =
    find_among l.wanted l.start (running_view l.arms.items)
    ≡ find_among l.wanted (l.start + l.i) (running_view (drop l.i l.arms.items))
