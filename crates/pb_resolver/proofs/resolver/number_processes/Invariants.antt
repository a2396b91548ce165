use Rattle.std.proofs.Common.{map, take}
use Rattle.std.specs.List.{AllZip}
use Rattle.pb_tree.specs.View.{process_view}
use Rattle.pb_names.specs.Resolves.{ResolvesProcess}
use Rattle.pb_names.specs.Search.{names_in}
use Rattle.pb_names.specs.View.{process_view as process_of}
use Rattle.pb_resolver.proofs.resolver.number_processes.Given as goal

abbrev pub invariant-loop-process : goal.invariant-loop-process
invariant-loop-process g l =
    AllZip (ResolvesProcess (names_in l.resources)) (take l.process-index (map process_view l.processes.items)) (map process_of l.list.items)
