use Rattle.std.specs.List.{flat_map}
use Rattle.pb_base.specs.Lines.{names_view}
use Rattle.pb_search_engine.specs.ItemLines.{counted_line}
use Rattle.std.proofs.lemmas.Result.{on_ok_weaker, on_err_weaker}
use Rattle.pb_command_io.proofs.PageLemmas.{OnErr-of}
use Rattle.pb_voice.specs.Held.{at}
use Rattle.pb_voice.proofs.VoiceLemmas.{adds_more, breaks_later, breaks_sooner}
use Rattle.pb_search_engine.proofs.pick_lines.tell_circle_lines.Goals as goal

pub returns-in_err-say-clause-err : goal.returns-in_err-say-clause-err
returns-in_err-say-clause-err g c =
    OnErr-of c.from_residual.result
    (breaks_sooner (at g.O.Output.written g.O.Output.failures c.args.voice.now c.args.output.now) (at g.O.Output.written g.O.Output.failures c.say.new.self c.say.new.output) c.args.heading.now (flat_map (counted_line (names_view c.args.names.now)) c.args.picks.now) c.in_err-say.ensures.err)

pub returns-clause-ok : goal.returns-clause-ok
returns-clause-ok g c =
    on_ok_weaker c.tell_picks.result
    (λ last. adds_more (at g.O.Output.written g.O.Output.failures c.args.voice.now c.args.output.now) (at g.O.Output.written g.O.Output.failures c.say.new.self c.say.new.output) (at g.O.Output.written g.O.Output.failures c.tell_picks.new.voice c.tell_picks.new.output) c.args.heading.now (flat_map (counted_line (names_view c.args.names.now)) c.args.picks.now) c.in_ok-say.ensures.ok last) c.tell_picks.ensures.ok

pub returns-clause-err : goal.returns-clause-err
returns-clause-err g c =
    on_err_weaker c.tell_picks.result
    (λ last. breaks_later (at g.O.Output.written g.O.Output.failures c.args.voice.now c.args.output.now) (at g.O.Output.written g.O.Output.failures c.say.new.self c.say.new.output) (at g.O.Output.written g.O.Output.failures c.tell_picks.new.voice c.tell_picks.new.output) c.args.heading.now (flat_map (counted_line (names_view c.args.names.now)) c.args.picks.now) c.in_ok-say.ensures.ok last) c.tell_picks.ensures.err
