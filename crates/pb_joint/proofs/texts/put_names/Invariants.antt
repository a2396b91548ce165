use Rattle.std.proofs.Common.{◌≡◌, ◌++◌, map, take}
use Rattle.pb_joint.specs.View.{full_name}
use Rattle.pb_joint.specs.Texts.{names_in}
use Rattle.pb_tree.specs.View.{process_view}
use Rattle.pb_joint.proofs.texts.put_names.Given as goal

abbrev pub invariant-loop-process : goal.invariant-loop-process
invariant-loop-process l =
    map full_name l.names.items ≡ map full_name l.initial.names.items
    ++ names_in l.several l.number (map process_view (take l.process-index l.processes))
