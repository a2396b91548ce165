use Rattle.std.proofs.Common.{◌++◌, codes}
use Rattle.pb_base.specs.Lines.{names_view}
use Rattle.pb_code.specs.View.{labels_view}
use Rattle.pb_search_engine.specs.ItemObjects.{picks_json, prints_json, sections_json, head_json}
use Rattle.std.proofs.lemmas.Result.{on_ok_weaker, on_err_weaker}
use Rattle.pb_command_io.proofs.PageLemmas.{OnErr-of}
use Rattle.pb_voice.specs.Held.{at}
use Rattle.pb_voice.proofs.VoiceLemmas.{adds_more, breaks_later, breaks_sooner}
use Rattle.pb_search_engine.proofs.item_objects.tell_block.Goals as goal

pub returns-in_err-tell_head-clause-err : goal.returns-in_err-tell_head-clause-err
returns-in_err-tell_head-clause-err g c =
    let names = names_view c.args.names.now in
    let labels = labels_view c.args.labels.now in
    let b = c.args.block.now in
    OnErr-of c.from_residual.result (breaks_sooner (at g.O.Output.written g.O.Output.failures c.args.voice.now c.args.output.now) (at g.O.Output.written g.O.Output.failures c.tell_head.new.voice c.tell_head.new.output) (head_json c.args.kind.now b.number) (sections_json names labels b.parts.items ++ (prints_json names b.prints.items ++ (picks_json names b.picks.items ++ (codes "}\n")))) c.in_err-tell_head.ensures.err)

pub returns-in_err-tell_sections-clause-err : goal.returns-in_err-tell_sections-clause-err
returns-in_err-tell_sections-clause-err g c =
    let names = names_view c.args.names.now in
    let labels = labels_view c.args.labels.now in
    let b = c.args.block.now in
    OnErr-of c.from_residual-in_err-tell_sections.result (breaks_later (at g.O.Output.written g.O.Output.failures c.args.voice.now c.args.output.now) (at g.O.Output.written g.O.Output.failures c.tell_head.new.voice c.tell_head.new.output) (at g.O.Output.written g.O.Output.failures c.tell_sections.new.voice c.tell_sections.new.output) (head_json c.args.kind.now b.number) (sections_json names labels b.parts.items ++ (prints_json names b.prints.items ++ (picks_json names b.picks.items ++ (codes "}\n")))) c.in_ok-tell_head.ensures.ok (breaks_sooner (at g.O.Output.written g.O.Output.failures c.tell_head.new.voice c.tell_head.new.output) (at g.O.Output.written g.O.Output.failures c.tell_sections.new.voice c.tell_sections.new.output) (sections_json names labels b.parts.items) (prints_json names b.prints.items ++ (picks_json names b.picks.items ++ (codes "}\n"))) (rw (c.deref.ensures.value) at c.in_err-tell_sections.ensures.err)))

pub returns-in_err-tell_print_list-clause-err : goal.returns-in_err-tell_print_list-clause-err
returns-in_err-tell_print_list-clause-err g c =
    let names = names_view c.args.names.now in
    let labels = labels_view c.args.labels.now in
    let b = c.args.block.now in
    OnErr-of c.from_residual-in_err-tell_print_list.result (breaks_later (at g.O.Output.written g.O.Output.failures c.args.voice.now c.args.output.now) (at g.O.Output.written g.O.Output.failures c.tell_head.new.voice c.tell_head.new.output) (at g.O.Output.written g.O.Output.failures c.tell_print_list.new.voice c.tell_print_list.new.output) (head_json c.args.kind.now b.number) (sections_json names labels b.parts.items ++ (prints_json names b.prints.items ++ (picks_json names b.picks.items ++ (codes "}\n")))) c.in_ok-tell_head.ensures.ok (breaks_later (at g.O.Output.written g.O.Output.failures c.tell_head.new.voice c.tell_head.new.output) (at g.O.Output.written g.O.Output.failures c.tell_sections.new.voice c.tell_sections.new.output) (at g.O.Output.written g.O.Output.failures c.tell_print_list.new.voice c.tell_print_list.new.output) (sections_json names labels b.parts.items) (prints_json names b.prints.items ++ (picks_json names b.picks.items ++ (codes "}\n"))) (rw (c.deref.ensures.value) at c.in_ok-tell_sections.ensures.ok) (breaks_sooner (at g.O.Output.written g.O.Output.failures c.tell_sections.new.voice c.tell_sections.new.output) (at g.O.Output.written g.O.Output.failures c.tell_print_list.new.voice c.tell_print_list.new.output) (prints_json names b.prints.items) (picks_json names b.picks.items ++ (codes "}\n")) (rw (c.deref-2.ensures.value) at c.in_err-tell_print_list.ensures.err))))

pub returns-in_err-tell_pick_list-clause-err : goal.returns-in_err-tell_pick_list-clause-err
returns-in_err-tell_pick_list-clause-err g c =
    let names = names_view c.args.names.now in
    let labels = labels_view c.args.labels.now in
    let b = c.args.block.now in
    OnErr-of c.from_residual-in_err-tell_pick_list.result (breaks_later (at g.O.Output.written g.O.Output.failures c.args.voice.now c.args.output.now) (at g.O.Output.written g.O.Output.failures c.tell_head.new.voice c.tell_head.new.output) (at g.O.Output.written g.O.Output.failures c.tell_pick_list.new.voice c.tell_pick_list.new.output) (head_json c.args.kind.now b.number) (sections_json names labels b.parts.items ++ (prints_json names b.prints.items ++ (picks_json names b.picks.items ++ (codes "}\n")))) c.in_ok-tell_head.ensures.ok (breaks_later (at g.O.Output.written g.O.Output.failures c.tell_head.new.voice c.tell_head.new.output) (at g.O.Output.written g.O.Output.failures c.tell_sections.new.voice c.tell_sections.new.output) (at g.O.Output.written g.O.Output.failures c.tell_pick_list.new.voice c.tell_pick_list.new.output) (sections_json names labels b.parts.items) (prints_json names b.prints.items ++ (picks_json names b.picks.items ++ (codes "}\n"))) (rw (c.deref.ensures.value) at c.in_ok-tell_sections.ensures.ok) (breaks_later (at g.O.Output.written g.O.Output.failures c.tell_sections.new.voice c.tell_sections.new.output) (at g.O.Output.written g.O.Output.failures c.tell_print_list.new.voice c.tell_print_list.new.output) (at g.O.Output.written g.O.Output.failures c.tell_pick_list.new.voice c.tell_pick_list.new.output) (prints_json names b.prints.items) (picks_json names b.picks.items ++ (codes "}\n")) (rw (c.deref-2.ensures.value) at c.in_ok-tell_print_list.ensures.ok) (breaks_sooner (at g.O.Output.written g.O.Output.failures c.tell_print_list.new.voice c.tell_print_list.new.output) (at g.O.Output.written g.O.Output.failures c.tell_pick_list.new.voice c.tell_pick_list.new.output) (picks_json names b.picks.items) (codes "}\n") (rw (c.deref-3.ensures.value) at c.in_err-tell_pick_list.ensures.err)))))

pub returns-clause-ok : goal.returns-clause-ok
returns-clause-ok g c =
    let names = names_view c.args.names.now in
    let labels = labels_view c.args.labels.now in
    let b = c.args.block.now in
    on_ok_weaker c.say.result (λ last. (adds_more (at g.O.Output.written g.O.Output.failures c.args.voice.now c.args.output.now) (at g.O.Output.written g.O.Output.failures c.tell_head.new.voice c.tell_head.new.output) (at g.O.Output.written g.O.Output.failures c.say.new.self c.say.new.output) (head_json c.args.kind.now b.number) (sections_json names labels b.parts.items ++ (prints_json names b.prints.items ++ (picks_json names b.picks.items ++ (codes "}\n")))) c.in_ok-tell_head.ensures.ok (adds_more (at g.O.Output.written g.O.Output.failures c.tell_head.new.voice c.tell_head.new.output) (at g.O.Output.written g.O.Output.failures c.tell_sections.new.voice c.tell_sections.new.output) (at g.O.Output.written g.O.Output.failures c.say.new.self c.say.new.output) (sections_json names labels b.parts.items) (prints_json names b.prints.items ++ (picks_json names b.picks.items ++ (codes "}\n"))) (rw (c.deref.ensures.value) at c.in_ok-tell_sections.ensures.ok) (adds_more (at g.O.Output.written g.O.Output.failures c.tell_sections.new.voice c.tell_sections.new.output) (at g.O.Output.written g.O.Output.failures c.tell_print_list.new.voice c.tell_print_list.new.output) (at g.O.Output.written g.O.Output.failures c.say.new.self c.say.new.output) (prints_json names b.prints.items) (picks_json names b.picks.items ++ (codes "}\n")) (rw (c.deref-2.ensures.value) at c.in_ok-tell_print_list.ensures.ok) (adds_more (at g.O.Output.written g.O.Output.failures c.tell_print_list.new.voice c.tell_print_list.new.output) (at g.O.Output.written g.O.Output.failures c.tell_pick_list.new.voice c.tell_pick_list.new.output) (at g.O.Output.written g.O.Output.failures c.say.new.self c.say.new.output) (picks_json names b.picks.items) (codes "}\n") (rw (c.deref-3.ensures.value) at c.in_ok-tell_pick_list.ensures.ok) last))))) c.say.ensures.ok

pub returns-clause-err : goal.returns-clause-err
returns-clause-err g c =
    let names = names_view c.args.names.now in
    let labels = labels_view c.args.labels.now in
    let b = c.args.block.now in
    on_err_weaker c.say.result (λ last. (breaks_later (at g.O.Output.written g.O.Output.failures c.args.voice.now c.args.output.now) (at g.O.Output.written g.O.Output.failures c.tell_head.new.voice c.tell_head.new.output) (at g.O.Output.written g.O.Output.failures c.say.new.self c.say.new.output) (head_json c.args.kind.now b.number) (sections_json names labels b.parts.items ++ (prints_json names b.prints.items ++ (picks_json names b.picks.items ++ (codes "}\n")))) c.in_ok-tell_head.ensures.ok (breaks_later (at g.O.Output.written g.O.Output.failures c.tell_head.new.voice c.tell_head.new.output) (at g.O.Output.written g.O.Output.failures c.tell_sections.new.voice c.tell_sections.new.output) (at g.O.Output.written g.O.Output.failures c.say.new.self c.say.new.output) (sections_json names labels b.parts.items) (prints_json names b.prints.items ++ (picks_json names b.picks.items ++ (codes "}\n"))) (rw (c.deref.ensures.value) at c.in_ok-tell_sections.ensures.ok) (breaks_later (at g.O.Output.written g.O.Output.failures c.tell_sections.new.voice c.tell_sections.new.output) (at g.O.Output.written g.O.Output.failures c.tell_print_list.new.voice c.tell_print_list.new.output) (at g.O.Output.written g.O.Output.failures c.say.new.self c.say.new.output) (prints_json names b.prints.items) (picks_json names b.picks.items ++ (codes "}\n")) (rw (c.deref-2.ensures.value) at c.in_ok-tell_print_list.ensures.ok) (breaks_later (at g.O.Output.written g.O.Output.failures c.tell_print_list.new.voice c.tell_print_list.new.output) (at g.O.Output.written g.O.Output.failures c.tell_pick_list.new.voice c.tell_pick_list.new.output) (at g.O.Output.written g.O.Output.failures c.say.new.self c.say.new.output) (picks_json names b.picks.items) (codes "}\n") (rw (c.deref-3.ensures.value) at c.in_ok-tell_pick_list.ensures.ok) last))))) c.say.ensures.err
