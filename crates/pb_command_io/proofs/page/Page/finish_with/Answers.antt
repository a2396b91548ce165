use Rattle.pb_command_io.proofs.PageLemmas.{Says-then}
use Rattle.pb_command_io.proofs.page.Page.finish_with.Goals as goal

pub returns-in-Ok-clause-text : goal.returns-in-Ok-clause-text
returns-in-Ok-clause-text g c =
    Says-then _ _ _ _ c.say_line.new.self c.args.status c.finish.result c.in-Ok.ensures.ok c.finish.ensures.text
