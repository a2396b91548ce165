use Rattle.pb_command_line.specs.CommandLine.{debug_command, record_command, replay_command, with_pick_commands}
use Rattle.pb_command_line.proofs.AddedCommands.{has_rules}
use Rattle.pb_command_line.proofs.command_line.with_picks.Goals as goal

pub returns : goal.returns
unfolding with_pick_commands
returns c app is =
    let is1 = c.with_made-command.ensures app record_command is (has_rules record_command c.record_text.result c.record_text.ensures) in
    let is2 = c.with_made-command-2.ensures _ replay_command is1 (has_rules replay_command c.replay_picks.result c.replay_picks.ensures) in
    c.with_made.ensures _ debug_command is2 (has_rules debug_command c.debug_picks.result c.debug_picks.ensures)
