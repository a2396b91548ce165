use Rattle.std.proofs.lemmas.Result.{on_ok_weaker, on_err_weaker}
use Rattle.pb_command_io.proofs.PageLemmas.{AddsPrefix-more, AddsPrefix-shorter, Leaves-more, OnErr-of}
use Rattle.pb_command_io.proofs.page.Page.say_line.Goals as goal

pub returns-in_err-say-clause-prefix : goal.returns-in_err-say-clause-prefix
returns-in_err-say-clause-prefix g c =
    OnErr-of c.from_residual.result (AddsPrefix-shorter _ _ c.args.self.now c.args.text.now _ c.in_err-say.ensures.prefix)

pub returns-clause-ok : goal.returns-clause-ok
returns-clause-ok g c =
    on_ok_weaker c.say-2.result
    (Leaves-more _ (g.O.Output.written c.say.new.output) _ c.args.self.now c.args.text.now _ c.say.new.self _ c.in_ok-say.ensures.ok)
    c.say-2.ensures.ok

pub returns-clause-prefix : goal.returns-clause-prefix
returns-clause-prefix g c =
    on_err_weaker c.say-2.result
    (AddsPrefix-more _ (g.O.Output.written c.say.new.output) _ c.args.self.now c.args.text.now _ c.say.new.self c.in_ok-say.ensures.ok)
    c.say-2.ensures.prefix
