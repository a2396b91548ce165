use Rattle.pb_command_line.specs.CommandLine.{check_command}
use Rattle.pb_command_line.proofs.command_line.check_texts.Goals as goal

pub returns : goal.returns
unfolding check_command
returns c = c.with_flag.ensures _ (c.with_given_number-check.ensures _ c.plain-check.ensures)
