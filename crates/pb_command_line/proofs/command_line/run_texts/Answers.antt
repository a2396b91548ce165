use Rattle.pb_command_line.specs.CommandLine.{run_command}
use Rattle.pb_command_line.proofs.command_line.run_texts.Goals as goal

pub returns : goal.returns
unfolding run_command
returns c = c.with_run_options.ensures _ c.plain-run.ensures
