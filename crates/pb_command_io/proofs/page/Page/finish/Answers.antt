use Rattle.std.proofs.Common.{rules}
use Rattle.pb_command_io.proofs.page.Page.finish.Goals as goal

pub returns-in-Ok-clause-text : goal.returns-in-Ok-clause-text
returns-in-Ok-clause-text g c = search rules fits 100
