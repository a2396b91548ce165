use Rattle.pb_command_line.specs.CommandLine.{check_command, claims_command, findings_command, plan_command, with_text_commands}
use Rattle.pb_command_line.proofs.AddedCommands.{has_rules}
use Rattle.pb_command_line.proofs.command_line.with_texts.Goals as goal

pub returns : goal.returns
unfolding with_text_commands claims_command
returns c app is =
    let is1 = c.with_made-command.ensures app check_command is (has_rules check_command c.check_texts.result c.check_texts.ensures) in
    let is2 = c.with_made-command-2.ensures _ claims_command is1 (has_rules claims_command c.plain-claims.result c.plain-claims.ensures) in
    let is3 = c.with_made-command-3.ensures _ plan_command is2 (has_rules plan_command c.plan_of_texts.result c.plan_of_texts.ensures) in
    c.with_made.ensures _ findings_command is3 (has_rules findings_command c.find_in_files.result c.find_in_files.ensures)
