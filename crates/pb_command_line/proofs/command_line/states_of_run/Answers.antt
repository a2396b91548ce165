use Rattle.pb_command_line.specs.CommandLine.{states_command}
use Rattle.pb_command_line.proofs.command_line.states_of_run.Goals as goal

pub returns : goal.returns
unfolding states_command
returns c =
    c.with_lend.ensures _ (c.with_number-states-2.ensures _ (c.with_number-states.ensures _ c.plain-states.ensures))
