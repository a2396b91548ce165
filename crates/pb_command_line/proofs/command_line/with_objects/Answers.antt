use Rattle.pb_command_line.specs.CommandLine.{exec_command, migrate_command, with_object_commands}
use Rattle.pb_command_line.proofs.AddedCommands.{has_rules}
use Rattle.pb_command_line.proofs.command_line.with_objects.Goals as goal

pub returns : goal.returns
unfolding with_object_commands migrate_command
returns c app is =
    let is1 = c.with_made-command.ensures app exec_command is (has_rules exec_command c.exec_object.result c.exec_object.ensures) in
    c.with_made.ensures _ migrate_command is1 (has_rules migrate_command c.plain.result c.plain.ensures)
