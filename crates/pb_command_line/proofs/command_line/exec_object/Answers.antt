use Rattle.pb_command_line.specs.CommandLine.{exec_command}
use Rattle.pb_command_line.proofs.command_line.exec_object.Goals as goal

pub returns : goal.returns
unfolding exec_command
returns c = c.with_run_options.ensures _ c.plain-exec.ensures
