use Rattle.std.proofs.Common.{◌≡◌, map, take}
use Rattle.pb_code.specs.View.{process_view, process_labels_view}
use Rattle.pb_generator.specs.Generate.{process_code}
use Rattle.pb_generator.specs.Lines.{process_labels}
use Rattle.pb_names.specs.View.{process_view as plain_process}
use Rattle.pb_generator.proofs.process.write_processes.Given as goal

abbrev pub invariant-loop-process : goal.invariant-loop-process
invariant-loop-process g l =
    let written = map plain_process (take l.process-index l.process-items) in
    record {
      code : map process_view l.code.items ≡ map process_code written;
      labels : map process_labels_view l.labels.items ≡ map process_labels written;
    }
