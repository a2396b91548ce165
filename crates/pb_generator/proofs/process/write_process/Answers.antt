use Rattle.std.proofs.Common.{◌≤◌, length, arith}
use Rattle.std.proofs.lemmas.Grind.{common_steps}
use Rattle.std.proofs.lemmas.List.Elements.{All-same}
use Rattle.pb_names.specs.Program.{arms_in, arms_of}
use Rattle.pb_names.specs.View.{process_view}
use Rattle.pb_generator.proofs.ArmOrder.{few_arms_in_each}
use Rattle.pb_generator.proofs.process.write_process.Goals as goal

pub write_arms-requires-clause-few_arms : goal.write_arms-requires-clause-few_arms
write_arms-requires-clause-few_arms g c =
    let process = process_view c.args.process.now in
    All-same (λ arm. length (arms_in arm) ≤ 64) _ (arms_of process) c.in_ok-arms.ensures
    (few_arms_in_each process c.requires.few_arms)

pub write_arms-requires-clause-small : goal.write_arms-requires-clause-small
write_arms-requires-clause-small g c = grind (arith, common_steps)

pub overflow_cast-code : goal.overflow_cast-code
overflow_cast-code g c = grind (arith, common_steps)

pub returns-in_err-integers-clause-code : goal.returns-in_err-integers-clause-code
returns-in_err-integers-clause-code g c = grind (arith, common_steps)

pub returns-in_err-integers-clause-labels : goal.returns-in_err-integers-clause-labels
returns-in_err-integers-clause-labels g c = grind (arith, common_steps)

pub returns-clause-code : goal.returns-clause-code
returns-clause-code g c = grind (arith, common_steps)
