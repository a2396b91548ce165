use Rattle.std.proofs.Common.{◌++◌, codes}
use Rattle.pb_base.specs.Lines.{names_view}
use Rattle.pb_code.specs.View.{labels_view}
use Rattle.pb_search_engine.specs.ItemObjects.{section_json}
use Rattle.pb_search_engine.specs.declared.part.Section.TheVariants as section
use Rattle.std.proofs.lemmas.Result.{on_ok_weaker, on_err_weaker}
use Rattle.pb_command_io.proofs.PageLemmas.{OnErr-of}
use Rattle.pb_voice.specs.Held.{at}
use Rattle.pb_voice.proofs.VoiceLemmas.{adds_more, breaks_later, breaks_sooner}
use Rattle.pb_search_engine.proofs.part_objects.tell_sections.Goals as goal

pub returns-in_err-tell_section-clause-err : goal.returns-in_err-tell_section-clause-err
returns-in_err-tell_section-clause-err g c =
    let names = names_view c.args.names.now in
    let labels = labels_view c.args.labels.now in
    OnErr-of c.from_residual.result (breaks_sooner (at g.O.Output.written g.O.Output.failures c.args.voice.now c.args.output.now) (at g.O.Output.written g.O.Output.failures c.tell_section.new.voice c.tell_section.new.output) (section_json names labels (codes ",\"processes\":[") section.Processes c.args.parts.now) (section_json names labels (codes ",\"integers\":[") section.Integers c.args.parts.now ++ (section_json names labels (codes ",\"holds\":[") section.Holds c.args.parts.now ++ (section_json names labels (codes ",\"asks\":[") section.Asks c.args.parts.now))) c.in_err-tell_section.ensures.err)

pub returns-in_err-tell_section-2-clause-err : goal.returns-in_err-tell_section-2-clause-err
returns-in_err-tell_section-2-clause-err g c =
    let names = names_view c.args.names.now in
    let labels = labels_view c.args.labels.now in
    OnErr-of c.from_residual-in_err-tell_section-2.result (breaks_later (at g.O.Output.written g.O.Output.failures c.args.voice.now c.args.output.now) (at g.O.Output.written g.O.Output.failures c.tell_section.new.voice c.tell_section.new.output) (at g.O.Output.written g.O.Output.failures c.tell_section-2.new.voice c.tell_section-2.new.output) (section_json names labels (codes ",\"processes\":[") section.Processes c.args.parts.now) (section_json names labels (codes ",\"integers\":[") section.Integers c.args.parts.now ++ (section_json names labels (codes ",\"holds\":[") section.Holds c.args.parts.now ++ (section_json names labels (codes ",\"asks\":[") section.Asks c.args.parts.now))) c.in_ok-tell_section.ensures.ok (breaks_sooner (at g.O.Output.written g.O.Output.failures c.tell_section.new.voice c.tell_section.new.output) (at g.O.Output.written g.O.Output.failures c.tell_section-2.new.voice c.tell_section-2.new.output) (section_json names labels (codes ",\"integers\":[") section.Integers c.args.parts.now) (section_json names labels (codes ",\"holds\":[") section.Holds c.args.parts.now ++ (section_json names labels (codes ",\"asks\":[") section.Asks c.args.parts.now)) c.in_err-tell_section-2.ensures.err))

pub returns-in_err-tell_section-3-clause-err : goal.returns-in_err-tell_section-3-clause-err
returns-in_err-tell_section-3-clause-err g c =
    let names = names_view c.args.names.now in
    let labels = labels_view c.args.labels.now in
    OnErr-of c.from_residual-in_err-tell_section-3.result (breaks_later (at g.O.Output.written g.O.Output.failures c.args.voice.now c.args.output.now) (at g.O.Output.written g.O.Output.failures c.tell_section.new.voice c.tell_section.new.output) (at g.O.Output.written g.O.Output.failures c.tell_section-3.new.voice c.tell_section-3.new.output) (section_json names labels (codes ",\"processes\":[") section.Processes c.args.parts.now) (section_json names labels (codes ",\"integers\":[") section.Integers c.args.parts.now ++ (section_json names labels (codes ",\"holds\":[") section.Holds c.args.parts.now ++ (section_json names labels (codes ",\"asks\":[") section.Asks c.args.parts.now))) c.in_ok-tell_section.ensures.ok (breaks_later (at g.O.Output.written g.O.Output.failures c.tell_section.new.voice c.tell_section.new.output) (at g.O.Output.written g.O.Output.failures c.tell_section-2.new.voice c.tell_section-2.new.output) (at g.O.Output.written g.O.Output.failures c.tell_section-3.new.voice c.tell_section-3.new.output) (section_json names labels (codes ",\"integers\":[") section.Integers c.args.parts.now) (section_json names labels (codes ",\"holds\":[") section.Holds c.args.parts.now ++ (section_json names labels (codes ",\"asks\":[") section.Asks c.args.parts.now)) c.in_ok-tell_section-2.ensures.ok (breaks_sooner (at g.O.Output.written g.O.Output.failures c.tell_section-2.new.voice c.tell_section-2.new.output) (at g.O.Output.written g.O.Output.failures c.tell_section-3.new.voice c.tell_section-3.new.output) (section_json names labels (codes ",\"holds\":[") section.Holds c.args.parts.now) (section_json names labels (codes ",\"asks\":[") section.Asks c.args.parts.now) c.in_err-tell_section-3.ensures.err)))

pub returns-clause-ok : goal.returns-clause-ok
returns-clause-ok g c =
    let names = names_view c.args.names.now in
    let labels = labels_view c.args.labels.now in
    on_ok_weaker c.tell_section-4.result (λ last. (adds_more (at g.O.Output.written g.O.Output.failures c.args.voice.now c.args.output.now) (at g.O.Output.written g.O.Output.failures c.tell_section.new.voice c.tell_section.new.output) (at g.O.Output.written g.O.Output.failures c.tell_section-4.new.voice c.tell_section-4.new.output) (section_json names labels (codes ",\"processes\":[") section.Processes c.args.parts.now) (section_json names labels (codes ",\"integers\":[") section.Integers c.args.parts.now ++ (section_json names labels (codes ",\"holds\":[") section.Holds c.args.parts.now ++ (section_json names labels (codes ",\"asks\":[") section.Asks c.args.parts.now))) c.in_ok-tell_section.ensures.ok (adds_more (at g.O.Output.written g.O.Output.failures c.tell_section.new.voice c.tell_section.new.output) (at g.O.Output.written g.O.Output.failures c.tell_section-2.new.voice c.tell_section-2.new.output) (at g.O.Output.written g.O.Output.failures c.tell_section-4.new.voice c.tell_section-4.new.output) (section_json names labels (codes ",\"integers\":[") section.Integers c.args.parts.now) (section_json names labels (codes ",\"holds\":[") section.Holds c.args.parts.now ++ (section_json names labels (codes ",\"asks\":[") section.Asks c.args.parts.now)) c.in_ok-tell_section-2.ensures.ok (adds_more (at g.O.Output.written g.O.Output.failures c.tell_section-2.new.voice c.tell_section-2.new.output) (at g.O.Output.written g.O.Output.failures c.tell_section-3.new.voice c.tell_section-3.new.output) (at g.O.Output.written g.O.Output.failures c.tell_section-4.new.voice c.tell_section-4.new.output) (section_json names labels (codes ",\"holds\":[") section.Holds c.args.parts.now) (section_json names labels (codes ",\"asks\":[") section.Asks c.args.parts.now) c.in_ok-tell_section-3.ensures.ok last)))) c.tell_section-4.ensures.ok

pub returns-clause-err : goal.returns-clause-err
returns-clause-err g c =
    let names = names_view c.args.names.now in
    let labels = labels_view c.args.labels.now in
    on_err_weaker c.tell_section-4.result (λ last. (breaks_later (at g.O.Output.written g.O.Output.failures c.args.voice.now c.args.output.now) (at g.O.Output.written g.O.Output.failures c.tell_section.new.voice c.tell_section.new.output) (at g.O.Output.written g.O.Output.failures c.tell_section-4.new.voice c.tell_section-4.new.output) (section_json names labels (codes ",\"processes\":[") section.Processes c.args.parts.now) (section_json names labels (codes ",\"integers\":[") section.Integers c.args.parts.now ++ (section_json names labels (codes ",\"holds\":[") section.Holds c.args.parts.now ++ (section_json names labels (codes ",\"asks\":[") section.Asks c.args.parts.now))) c.in_ok-tell_section.ensures.ok (breaks_later (at g.O.Output.written g.O.Output.failures c.tell_section.new.voice c.tell_section.new.output) (at g.O.Output.written g.O.Output.failures c.tell_section-2.new.voice c.tell_section-2.new.output) (at g.O.Output.written g.O.Output.failures c.tell_section-4.new.voice c.tell_section-4.new.output) (section_json names labels (codes ",\"integers\":[") section.Integers c.args.parts.now) (section_json names labels (codes ",\"holds\":[") section.Holds c.args.parts.now ++ (section_json names labels (codes ",\"asks\":[") section.Asks c.args.parts.now)) c.in_ok-tell_section-2.ensures.ok (breaks_later (at g.O.Output.written g.O.Output.failures c.tell_section-2.new.voice c.tell_section-2.new.output) (at g.O.Output.written g.O.Output.failures c.tell_section-3.new.voice c.tell_section-3.new.output) (at g.O.Output.written g.O.Output.failures c.tell_section-4.new.voice c.tell_section-4.new.output) (section_json names labels (codes ",\"holds\":[") section.Holds c.args.parts.now) (section_json names labels (codes ",\"asks\":[") section.Asks c.args.parts.now) c.in_ok-tell_section-3.ensures.ok last)))) c.tell_section-4.ensures.err
