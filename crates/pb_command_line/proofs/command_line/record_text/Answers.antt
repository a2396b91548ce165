use Rattle.pb_command_line.specs.CommandLine.{record_command}
use Rattle.pb_command_line.proofs.command_line.record_text.Goals as goal

pub returns : goal.returns
unfolding record_command
returns c = c.with_lend.ensures _ (c.with_seed-record.ensures _ (c.with_run_options-record.ensures _ c.plain.ensures))
