use Rattle.pb_command_line.specs.CommandLine.{findings_command}
use Rattle.pb_command_line.proofs.command_line.find_in_files.Goals as goal

pub returns : goal.returns
unfolding findings_command
returns c = c.with_flag.ensures _ (c.with_given_number-findings.ensures _ c.plain-findings.ensures)
