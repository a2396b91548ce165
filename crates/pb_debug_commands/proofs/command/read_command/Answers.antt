use Rattle.std.proofs.Common.{rules}
use Rattle.pb_debug_commands.proofs.command.read_command.Goals as goal
use Rattle.pb_debug_commands.specs.Commands.{command_of}

pub returns-then-line-gt-MAX_COMMAND : goal.returns-then-line-gt-MAX_COMMAND
unfolding command_of
returns-then-line-gt-MAX_COMMAND c = search rules fits 100
