use Rattle.std.proofs.Common.{rules}
use Rattle.pb_command_io.proofs.page.Page.flush.Goals as goal

pub returns-clause-ok : goal.returns-clause-ok
returns-clause-ok g c = search rules fits 100

pub returns-clause-given_up : goal.returns-clause-given_up
returns-clause-given_up g c = search rules fits 100
