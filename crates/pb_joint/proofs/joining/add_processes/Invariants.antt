use Rattle.std.proofs.Common.{◌≡◌, ◌++◌, map}
use Rattle.pb_tree.specs.View.{process_view}
use Rattle.pb_joint.proofs.joining.add_processes.Given as goal

abbrev pub invariant-loop-process : goal.invariant-loop-process
invariant-loop-process g l =
    map process_view l.all.items ≡ map process_view l.initial.all.items ++ map process_view l.yielded
