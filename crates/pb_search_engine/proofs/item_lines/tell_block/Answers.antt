use Rattle.std.proofs.Common.{◌++◌, codes}
use Rattle.std.specs.List.{flat_map}
use Rattle.pb_base.specs.Lines.{names_view}
use Rattle.pb_code.specs.View.{labels_view}
use Rattle.pb_search_engine.specs.ItemLines.{counted_line, numbered_line, part_line, printed_text}
use Rattle.std.proofs.lemmas.Result.{on_ok_weaker, on_err_weaker}
use Rattle.pb_command_io.proofs.PageLemmas.{OnErr-of}
use Rattle.pb_voice.specs.Held.{at}
use Rattle.pb_voice.proofs.VoiceLemmas.{adds_more, breaks_later, breaks_sooner}
use Rattle.pb_search_engine.proofs.item_lines.tell_block.Goals as goal

pub returns-in_err-tell_head-clause-err : goal.returns-in_err-tell_head-clause-err
returns-in_err-tell_head-clause-err g c =
    let names = names_view c.args.names.now in
    let labels = labels_view c.args.labels.now in
    let b = c.args.block.now in
    OnErr-of c.from_residual.result (breaks_sooner (at g.O.Output.written g.O.Output.failures c.args.voice.now c.args.output.now) (at g.O.Output.written g.O.Output.failures c.tell_head.new.voice c.tell_head.new.output) (numbered_line c.args.word.now b.number) (flat_map (part_line names labels) b.parts.items ++ (printed_text names b.prints.items ++ (codes "reached by\n" ++ (flat_map (counted_line names) b.picks.items)))) c.in_err-tell_head.ensures.err)

pub returns-in_err-tell_parts-clause-err : goal.returns-in_err-tell_parts-clause-err
returns-in_err-tell_parts-clause-err g c =
    let names = names_view c.args.names.now in
    let labels = labels_view c.args.labels.now in
    let b = c.args.block.now in
    OnErr-of c.from_residual-in_err-tell_parts.result (breaks_later (at g.O.Output.written g.O.Output.failures c.args.voice.now c.args.output.now) (at g.O.Output.written g.O.Output.failures c.tell_head.new.voice c.tell_head.new.output) (at g.O.Output.written g.O.Output.failures c.tell_parts.new.voice c.tell_parts.new.output) (numbered_line c.args.word.now b.number) (flat_map (part_line names labels) b.parts.items ++ (printed_text names b.prints.items ++ (codes "reached by\n" ++ (flat_map (counted_line names) b.picks.items)))) c.in_ok-tell_head.ensures.ok (breaks_sooner (at g.O.Output.written g.O.Output.failures c.tell_head.new.voice c.tell_head.new.output) (at g.O.Output.written g.O.Output.failures c.tell_parts.new.voice c.tell_parts.new.output) (flat_map (part_line names labels) b.parts.items) (printed_text names b.prints.items ++ (codes "reached by\n" ++ (flat_map (counted_line names) b.picks.items))) (rw (c.deref.ensures.value) at c.in_err-tell_parts.ensures.err)))

pub returns-in_err-tell_printed-clause-err : goal.returns-in_err-tell_printed-clause-err
returns-in_err-tell_printed-clause-err g c =
    let names = names_view c.args.names.now in
    let labels = labels_view c.args.labels.now in
    let b = c.args.block.now in
    OnErr-of c.from_residual-in_err-tell_printed.result (breaks_later (at g.O.Output.written g.O.Output.failures c.args.voice.now c.args.output.now) (at g.O.Output.written g.O.Output.failures c.tell_head.new.voice c.tell_head.new.output) (at g.O.Output.written g.O.Output.failures c.tell_printed.new.voice c.tell_printed.new.output) (numbered_line c.args.word.now b.number) (flat_map (part_line names labels) b.parts.items ++ (printed_text names b.prints.items ++ (codes "reached by\n" ++ (flat_map (counted_line names) b.picks.items)))) c.in_ok-tell_head.ensures.ok (breaks_later (at g.O.Output.written g.O.Output.failures c.tell_head.new.voice c.tell_head.new.output) (at g.O.Output.written g.O.Output.failures c.tell_parts.new.voice c.tell_parts.new.output) (at g.O.Output.written g.O.Output.failures c.tell_printed.new.voice c.tell_printed.new.output) (flat_map (part_line names labels) b.parts.items) (printed_text names b.prints.items ++ (codes "reached by\n" ++ (flat_map (counted_line names) b.picks.items))) (rw (c.deref.ensures.value) at c.in_ok-tell_parts.ensures.ok) (breaks_sooner (at g.O.Output.written g.O.Output.failures c.tell_parts.new.voice c.tell_parts.new.output) (at g.O.Output.written g.O.Output.failures c.tell_printed.new.voice c.tell_printed.new.output) (printed_text names b.prints.items) (codes "reached by\n" ++ (flat_map (counted_line names) b.picks.items)) (rw (c.deref-2.ensures.value) at c.in_err-tell_printed.ensures.err))))

pub returns-in_err-say-clause-err : goal.returns-in_err-say-clause-err
returns-in_err-say-clause-err g c =
    let names = names_view c.args.names.now in
    let labels = labels_view c.args.labels.now in
    let b = c.args.block.now in
    OnErr-of c.from_residual-in_err-say.result (breaks_later (at g.O.Output.written g.O.Output.failures c.args.voice.now c.args.output.now) (at g.O.Output.written g.O.Output.failures c.tell_head.new.voice c.tell_head.new.output) (at g.O.Output.written g.O.Output.failures c.say.new.self c.say.new.output) (numbered_line c.args.word.now b.number) (flat_map (part_line names labels) b.parts.items ++ (printed_text names b.prints.items ++ (codes "reached by\n" ++ (flat_map (counted_line names) b.picks.items)))) c.in_ok-tell_head.ensures.ok (breaks_later (at g.O.Output.written g.O.Output.failures c.tell_head.new.voice c.tell_head.new.output) (at g.O.Output.written g.O.Output.failures c.tell_parts.new.voice c.tell_parts.new.output) (at g.O.Output.written g.O.Output.failures c.say.new.self c.say.new.output) (flat_map (part_line names labels) b.parts.items) (printed_text names b.prints.items ++ (codes "reached by\n" ++ (flat_map (counted_line names) b.picks.items))) (rw (c.deref.ensures.value) at c.in_ok-tell_parts.ensures.ok) (breaks_later (at g.O.Output.written g.O.Output.failures c.tell_parts.new.voice c.tell_parts.new.output) (at g.O.Output.written g.O.Output.failures c.tell_printed.new.voice c.tell_printed.new.output) (at g.O.Output.written g.O.Output.failures c.say.new.self c.say.new.output) (printed_text names b.prints.items) (codes "reached by\n" ++ (flat_map (counted_line names) b.picks.items)) (rw (c.deref-2.ensures.value) at c.in_ok-tell_printed.ensures.ok) (breaks_sooner (at g.O.Output.written g.O.Output.failures c.tell_printed.new.voice c.tell_printed.new.output) (at g.O.Output.written g.O.Output.failures c.say.new.self c.say.new.output) (codes "reached by\n") (flat_map (counted_line names) b.picks.items) c.in_err-say.ensures.err))))

pub returns-clause-ok : goal.returns-clause-ok
returns-clause-ok g c =
    let names = names_view c.args.names.now in
    let labels = labels_view c.args.labels.now in
    let b = c.args.block.now in
    on_ok_weaker c.tell_picks.result (λ last. (adds_more (at g.O.Output.written g.O.Output.failures c.args.voice.now c.args.output.now) (at g.O.Output.written g.O.Output.failures c.tell_head.new.voice c.tell_head.new.output) (at g.O.Output.written g.O.Output.failures c.tell_picks.new.voice c.tell_picks.new.output) (numbered_line c.args.word.now b.number) (flat_map (part_line names labels) b.parts.items ++ (printed_text names b.prints.items ++ (codes "reached by\n" ++ (flat_map (counted_line names) b.picks.items)))) c.in_ok-tell_head.ensures.ok (adds_more (at g.O.Output.written g.O.Output.failures c.tell_head.new.voice c.tell_head.new.output) (at g.O.Output.written g.O.Output.failures c.tell_parts.new.voice c.tell_parts.new.output) (at g.O.Output.written g.O.Output.failures c.tell_picks.new.voice c.tell_picks.new.output) (flat_map (part_line names labels) b.parts.items) (printed_text names b.prints.items ++ (codes "reached by\n" ++ (flat_map (counted_line names) b.picks.items))) (rw (c.deref.ensures.value) at c.in_ok-tell_parts.ensures.ok) (adds_more (at g.O.Output.written g.O.Output.failures c.tell_parts.new.voice c.tell_parts.new.output) (at g.O.Output.written g.O.Output.failures c.tell_printed.new.voice c.tell_printed.new.output) (at g.O.Output.written g.O.Output.failures c.tell_picks.new.voice c.tell_picks.new.output) (printed_text names b.prints.items) (codes "reached by\n" ++ (flat_map (counted_line names) b.picks.items)) (rw (c.deref-2.ensures.value) at c.in_ok-tell_printed.ensures.ok) (adds_more (at g.O.Output.written g.O.Output.failures c.tell_printed.new.voice c.tell_printed.new.output) (at g.O.Output.written g.O.Output.failures c.say.new.self c.say.new.output) (at g.O.Output.written g.O.Output.failures c.tell_picks.new.voice c.tell_picks.new.output) (codes "reached by\n") (flat_map (counted_line names) b.picks.items) c.in_ok-say.ensures.ok last))))) (rw (c.deref-3.ensures.value) at c.tell_picks.ensures.ok)

pub returns-clause-err : goal.returns-clause-err
returns-clause-err g c =
    let names = names_view c.args.names.now in
    let labels = labels_view c.args.labels.now in
    let b = c.args.block.now in
    on_err_weaker c.tell_picks.result (λ last. (breaks_later (at g.O.Output.written g.O.Output.failures c.args.voice.now c.args.output.now) (at g.O.Output.written g.O.Output.failures c.tell_head.new.voice c.tell_head.new.output) (at g.O.Output.written g.O.Output.failures c.tell_picks.new.voice c.tell_picks.new.output) (numbered_line c.args.word.now b.number) (flat_map (part_line names labels) b.parts.items ++ (printed_text names b.prints.items ++ (codes "reached by\n" ++ (flat_map (counted_line names) b.picks.items)))) c.in_ok-tell_head.ensures.ok (breaks_later (at g.O.Output.written g.O.Output.failures c.tell_head.new.voice c.tell_head.new.output) (at g.O.Output.written g.O.Output.failures c.tell_parts.new.voice c.tell_parts.new.output) (at g.O.Output.written g.O.Output.failures c.tell_picks.new.voice c.tell_picks.new.output) (flat_map (part_line names labels) b.parts.items) (printed_text names b.prints.items ++ (codes "reached by\n" ++ (flat_map (counted_line names) b.picks.items))) (rw (c.deref.ensures.value) at c.in_ok-tell_parts.ensures.ok) (breaks_later (at g.O.Output.written g.O.Output.failures c.tell_parts.new.voice c.tell_parts.new.output) (at g.O.Output.written g.O.Output.failures c.tell_printed.new.voice c.tell_printed.new.output) (at g.O.Output.written g.O.Output.failures c.tell_picks.new.voice c.tell_picks.new.output) (printed_text names b.prints.items) (codes "reached by\n" ++ (flat_map (counted_line names) b.picks.items)) (rw (c.deref-2.ensures.value) at c.in_ok-tell_printed.ensures.ok) (breaks_later (at g.O.Output.written g.O.Output.failures c.tell_printed.new.voice c.tell_printed.new.output) (at g.O.Output.written g.O.Output.failures c.say.new.self c.say.new.output) (at g.O.Output.written g.O.Output.failures c.tell_picks.new.voice c.tell_picks.new.output) (codes "reached by\n") (flat_map (counted_line names) b.picks.items) c.in_ok-say.ensures.ok last))))) (rw (c.deref-3.ensures.value) at c.tell_picks.ensures.err)
