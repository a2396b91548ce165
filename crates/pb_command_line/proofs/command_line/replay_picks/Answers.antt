use Rattle.pb_command_line.specs.CommandLine.{replay_command}
use Rattle.pb_command_line.proofs.command_line.replay_picks.Goals as goal

pub returns : goal.returns
unfolding replay_command
returns c = c.with_lend.ensures _ c.plain.ensures
