use Rattle.pb_command_line.specs.CommandLine.{debug_command}
use Rattle.pb_command_line.proofs.command_line.debug_picks.Goals as goal

pub returns : goal.returns
unfolding debug_command
returns c = c.with_lend.ensures _ (c.with_flag-debug.ensures _ c.plain-debug.ensures)
