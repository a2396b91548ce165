use Rattle.pb_command_line.specs.CommandLine.{draw_command, explain_command, outcomes_command, with_other_commands}
use Rattle.pb_command_line.proofs.AddedCommands.{has_rules}
use Rattle.pb_command_line.proofs.command_line.with_others.Goals as goal

pub returns : goal.returns
unfolding with_other_commands
returns c app is =
    let is1 = c.with_made-command.ensures app draw_command is (has_rules draw_command c.draw_picks.result c.draw_picks.ensures) in
    let is2 = c.with_made-command-2.ensures _ outcomes_command is1 (has_rules outcomes_command c.outcomes_of_text.result c.outcomes_of_text.ensures) in
    c.with_made.ensures _ explain_command is2 (has_rules explain_command c.explain_code.result c.explain_code.ensures)
