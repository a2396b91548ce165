use Rattle.std.specs.List.{flat_map}
use Rattle.pb_base.specs.Lines.{names_view}
use Rattle.pb_search_engine.specs.ItemLines.{printed_line}
use Rattle.pb_search_engine.specs.OutcomeLines.{printed_head}
use Rattle.std.proofs.Common.{length}
use Rattle.std.proofs.lemmas.Result.{on_ok_weaker, on_err_weaker}
use Rattle.pb_command_io.proofs.PageLemmas.{OnErr-of}
use Rattle.pb_voice.specs.Held.{at}
use Rattle.pb_voice.proofs.VoiceLemmas.{adds_more, breaks_later, breaks_sooner}
use Rattle.pb_search_engine.proofs.item_lines.tell_printed.Goals as goal

pub returns-in_err-say-clause-err : goal.returns-in_err-say-clause-err
returns-in_err-say-clause-err g c =
    let names = names_view c.args.names.now in
    OnErr-of c.from_residual.result (breaks_sooner (at g.O.Output.written g.O.Output.failures c.args.voice.now c.args.output.now) (at g.O.Output.written g.O.Output.failures c.say.new.self c.say.new.output) (printed_head (length c.args.prints.now)) (flat_map (printed_line names) c.args.prints.now) (rw (c.heading.ensures) at c.in_err-say.ensures.err))

pub returns-clause-ok : goal.returns-clause-ok
returns-clause-ok g c =
    let names = names_view c.args.names.now in
    on_ok_weaker c.tell_print_lines.result (λ last. (adds_more (at g.O.Output.written g.O.Output.failures c.args.voice.now c.args.output.now) (at g.O.Output.written g.O.Output.failures c.say.new.self c.say.new.output) (at g.O.Output.written g.O.Output.failures c.tell_print_lines.new.voice c.tell_print_lines.new.output) (printed_head (length c.args.prints.now)) (flat_map (printed_line names) c.args.prints.now) (rw (c.heading.ensures) at c.in_ok-say.ensures.ok) last)) c.tell_print_lines.ensures.ok

pub returns-clause-err : goal.returns-clause-err
returns-clause-err g c =
    let names = names_view c.args.names.now in
    on_err_weaker c.tell_print_lines.result (λ last. (breaks_later (at g.O.Output.written g.O.Output.failures c.args.voice.now c.args.output.now) (at g.O.Output.written g.O.Output.failures c.say.new.self c.say.new.output) (at g.O.Output.written g.O.Output.failures c.tell_print_lines.new.voice c.tell_print_lines.new.output) (printed_head (length c.args.prints.now)) (flat_map (printed_line names) c.args.prints.now) (rw (c.heading.ensures) at c.in_ok-say.ensures.ok) last)) c.tell_print_lines.ensures.err
