use Rattle.std.proofs.Common.{◌≡◌, None, false, true, inl, refl}
use Rattle.pb_accept.proofs.InputLemmas.{of_fault}
use Rattle.pb_code.specs.View.{labels_view}
use Rattle.pb_object.proofs.TextLimits.{text_keeps}
use Rattle.pb_page_engine.specs.States.{SaysOfStates, no_text}
use Rattle.pb_page_engine.proofs.StatesLemmas.{lines_of_text_told, lines_told, no_code_told}
use Rattle.pb_voice.specs.Held.{at}
use Rattle.pb_page_engine.proofs.states.states_bytes.Goals as goal

pub states_lines-status-requires : goal.states_lines-status-requires
states_lines-status-requires g c = (text_keeps c.in-Ok.verified.code (labels_view c.in-Ok.labels) c.in-Ok.ensures.writable).fit

pub returns-in-Ok : goal.returns-in-Ok
returns-in-Ok g c =
    let object = c.if-is_object.ensures.0 refl in
    lines_told g.T.Teller.tells g.T.Teller.breaks (at g.O.Output.written g.O.Output.failures c.args.teller.now c.args.output.now)
    (at g.O.Output.written g.O.Output.failures c.states_lines-status.new.teller c.states_lines-status.new.output) c.states_lines-status.result c.args.lending c.args.shown
    c.args.bytes.now c.two_parts.result.0.now c.two_parts.result.1.now c.requires c.two_parts.ensures
    c.in-Ok.verified.code (labels_view c.in-Ok.labels) None (inl (object, c.in-Ok.ensures.loaded, refl)) c.states_lines-status.ensures

pub returns-in-Err : goal.returns-in-Err
returns-in-Err g c =
    let object = c.if-is_object.ensures.0 refl in
    no_code_told g.T.Teller.tells g.T.Teller.breaks (at g.O.Output.written g.O.Output.failures c.args.teller.now c.args.output.now)
    (at g.O.Output.written g.O.Output.failures c.tell_load_fault.new.teller c.tell_load_fault.new.output) c.tell_load_fault.result c.args.lending c.args.shown
    c.args.bytes.now c.two_parts.result.0.now c.two_parts.result.1.now c.requires c.two_parts.ensures
    c.in-Err.fault object c.in-Err.ensures.fault c.tell_load_fault.ensures

pub returns-in-Ok-code_of_text : goal.returns-in-Ok-code_of_text
returns-in-Ok-code_of_text g c =
    lines_of_text_told g.T.Teller.tells g.T.Teller.breaks (at g.O.Output.written g.O.Output.failures c.args.teller.now c.args.output.now)
    (at g.O.Output.written g.O.Output.failures c.states_lines-status-in-Ok-code_of_text.new.teller c.states_lines-status-in-Ok-code_of_text.new.output) c.states_lines-status-in-Ok-code_of_text.result c.args.lending c.args.shown
    c.args.bytes.now c.two_parts.result.0.now c.two_parts.result.1.now c.requires c.two_parts.ensures
    c.verified.result.now c.in-Ok-code_of_text.compiled.verified (labels_view c.labels.result.now)
    c.in-Ok-code_of_text.compiled.labels
    (λ object. let w : false ≡ true = c.if-is_object.ensures.1 object in cc)
    c.in-Ok-code_of_text.ensures.compiled c.verified.ensures c.labels.ensures.labels
    c.states_lines-status-in-Ok-code_of_text.ensures

pub returns-in-Err-code_of_text : goal.returns-in-Err-code_of_text
returns-in-Err-code_of_text g c =
    of_fault g.T.Teller.tells g.T.Teller.breaks (SaysOfStates c.args.lending c.args.shown)
    (at g.O.Output.written g.O.Output.failures c.args.teller.now c.args.output.now)
    (at g.O.Output.written g.O.Output.failures c.tell_fault.new.teller c.tell_fault.new.output) c.tell_fault.result c.args.bytes.now
    c.in-Err-code_of_text.fault c.requires
    (λ not. no_text c.two_parts.result.0.now c.two_parts.result.1.now c.two_parts.ensures
    (λ object. let w : false ≡ true = c.if-is_object.ensures.1 object in cc) c.in-Err-code_of_text.fault not c.in-Err-code_of_text.ensures.refused)
    c.tell_fault.ensures.memory c.tell_fault.ensures.refused
