use Rattle.pb_command_line.specs.CommandLine.{bank_command, dap_command, lsp_command, states_command, with_bank_commands}
use Rattle.pb_command_line.proofs.AddedCommands.{has_rules}
use Rattle.pb_command_line.proofs.command_line.with_bank.Goals as goal

pub returns : goal.returns
unfolding with_bank_commands bank_command dap_command lsp_command
returns c app is =
    let is1 = c.with_made-command.ensures app states_command is (has_rules states_command c.states_of_run.result c.states_of_run.ensures) in
    let is2 = c.with_made-command-2.ensures _ bank_command is1 (has_rules bank_command c.plain-bank.result c.plain-bank.ensures) in
    let is3 = c.with_made-command-3.ensures _ dap_command is2 (has_rules dap_command c.plain.result c.plain.ensures) in
    c.with_made.ensures _ lsp_command is3 (has_rules lsp_command c.plain-2.result c.plain-2.ensures)
