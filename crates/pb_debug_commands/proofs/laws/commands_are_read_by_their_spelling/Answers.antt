use Rattle.pb_debug_commands.proofs.Spellings.{commands_by_spelling}
use Rattle.pb_debug_commands.proofs.laws.commands_are_read_by_their_spelling.Goals as goal

pub returns : goal.returns
returns c = commands_by_spelling
