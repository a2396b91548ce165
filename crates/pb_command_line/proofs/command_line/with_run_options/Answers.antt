use Rattle.pb_command_line.specs.CommandLine.{with_run_rules}
use Rattle.pb_command_line.proofs.command_line.with_run_options.Goals as goal

pub returns : goal.returns
unfolding with_run_rules
returns c app is = c.with_number.ensures _ (c.with_number-command-2.ensures _ (c.with_number-command.ensures app is))
