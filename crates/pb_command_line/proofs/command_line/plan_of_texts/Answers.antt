use Rattle.pb_command_line.specs.CommandLine.{plan_command}
use Rattle.pb_command_line.proofs.command_line.plan_of_texts.Goals as goal

pub returns : goal.returns
unfolding plan_command
returns c = c.with_capitals.ensures _ (c.with_lend-plan.ensures _ c.plain.ensures)
