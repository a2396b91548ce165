use Rattle.pb_command_line.specs.CommandLine.{emit_command, run_command, with_code_commands}
use Rattle.pb_command_line.proofs.AddedCommands.{has_rules}
use Rattle.pb_command_line.proofs.command_line.with_codes.Goals as goal

pub returns : goal.returns
unfolding with_code_commands
returns c app is =
    let is1 = c.with_made-command.ensures app emit_command is (has_rules emit_command c.emit_object.result c.emit_object.ensures) in
    c.with_made.ensures _ run_command is1 (has_rules run_command c.run_texts.result c.run_texts.ensures)
