use Rattle.std.proofs.Common.{rules}
use Rattle.std.proofs.lemmas.Result.{on_ok_weaker, on_err_weaker}
use Rattle.pb_command_io.proofs.PageLemmas.{AddsPrefix-flushed, AddsPrefix-longer, Leaves-flushed, OnErr-of}
use Rattle.pb_command_io.proofs.page.Page.say.Goals as goal

pub returns-in_err-flush-clause-prefix : goal.returns-in_err-flush-clause-prefix
returns-in_err-flush-clause-prefix g c =
    OnErr-of c.from_residual.result (AddsPrefix-longer _ _ c.args.self.now c.args.text.now (search (rules, c.in_err-flush.ensures.prefix)))

pub returns-clause-ok : goal.returns-clause-ok
returns-clause-ok g c =
    let flushed = c.in_ok-flush.ensures.ok in
    on_ok_weaker c.write_all.result
    (Leaves-flushed _ (g.O.Output.written c.flush.new.output) _ _ c.keep.new.self _ c.flush.new.self c.if-keep.ensures flushed.0 flushed.1)
    c.write_all.ensures.ok

pub returns-clause-prefix : goal.returns-clause-prefix
returns-clause-prefix g c =
    let flushed = c.in_ok-flush.ensures.ok in
    on_err_weaker c.write_all.result
    (AddsPrefix-flushed _ (g.O.Output.written c.flush.new.output) _ _ c.keep.new.self _ c.if-keep.ensures flushed.0)
    c.write_all.ensures.prefix
