use Rattle.pb_command_line.specs.CommandLine.{command_line}
use Rattle.pb_command_line.proofs.command_line.command_line.Goals as goal

pub returns : goal.returns
unfolding command_line
returns c =
    c.with_bank.ensures _ (c.with_others.ensures _ (c.with_picks-command.ensures _ (c.with_objects.ensures _ (c.with_codes-command.ensures _
    (c.with_texts.ensures _ c.bare_command_line.ensures)))))
