use Rattle.pb_command_line.specs.CommandLine.{draw_command}
use Rattle.pb_command_line.proofs.command_line.draw_picks.Goals as goal

pub returns : goal.returns
unfolding draw_command
returns c =
    c.with_number.ensures _ (c.with_given_number-draw.ensures _ (c.with_lend-draw.ensures _ c.plain-draw.ensures))
