use Rattle.std.proofs.Common.{arith}
use Rattle.std.proofs.lemmas.Grind.{common_steps}
use Rattle.pb_code.specs.View.{process_view, process_labels_view}
use Rattle.pb_generator.specs.Sizes.{IsGeneratableProcess}
use Rattle.pb_generator.specs.Generate.{process_code}
use Rattle.pb_generator.specs.Lines.{process_labels}
use Rattle.pb_names.specs.View.{process_view as plain_process}
use Rattle.pb_generator.proofs.Loops.{at_read, more_seen}
use Rattle.pb_generator.proofs.process.write_processes.Goals as goal

pub write_process-requires : goal.write_process-requires
write_process-requires g c =
    at_read plain_process IsGeneratableProcess c.args.processes.now.items c.deref-process-items.result.now c.loop-process.process-index
    c.process-item.result c.deref-process-items.ensures.value c.process-item.is (omega arith) c.requires

pub loop-process-preserved : goal.loop-process-preserved
loop-process-preserved g c =
    let all = c.deref-process-items.result.now in
    let i = c.loop-process.process-index in
    let process = c.process-item.result in
    let written = c.in_ok-written in
    record {
      code =
          more_seen plain_process process_code process_view _ _ written.written.code all i process
          c.loop-process.invariant.code (omega arith) c.process-item.is c.in_ok-push.ensures.items written.ensures.code;
      labels =
          more_seen plain_process process_labels process_labels_view _ _ written.written.labels all i process
          c.loop-process.invariant.labels (omega arith) c.process-item.is c.in_ok-push-2.ensures.items written.ensures.labels;
    }

pub returns-clause-code : goal.returns-clause-code
returns-clause-code g c = grind (arith, common_steps) steps 400000

pub returns-clause-labels : goal.returns-clause-labels
returns-clause-labels g c = grind (arith, common_steps) steps 400000
