use Rattle.std.proofs.Common.{◌∙◌}
use Rattle.pb_debug_commands.proofs.Trims.{trims}
use Rattle.pb_debug_commands.proofs.command.trimmed.Goals as goal

pub returns : goal.returns
returns c = let e = c.trim_ascii_end.ensures.value in e.1 ∙ trims c.args.line.now e.0 e.3 e.4 e.5
