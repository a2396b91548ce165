use Rattle.std.proofs.Common.{◌≡◌, ◌∙◌, ℕ, List, ap, false, refl, subst}
use Rattle.std.proofs.lemmas.Option.{IfSome_then}
use Rattle.pb_code.specs.View.{labels_view}
use Rattle.pb_command_io.proofs.InputLemmas.{IfSome-of}
use Rattle.pb_debug.specs.Value.{Debugging, IsPosition}
use Rattle.pb_adapter.specs.Sessions.{AnswersIn, Debugged}
use Rattle.pb_conversations.specs.Conversations.{AnswersBeforeRead, AnswersRead}
use Rattle.pb_adapter_engine.specs.Adapters.{opened}
use Rattle.pb_adapter_engine.specs.Waiting.{launched_view}
use Rattle.pb_adapter_engine.proofs.AdapterLemmas.{launched_known, no_launch, opened_debugger}
use Rattle.pb_adapter_engine.proofs.session.debug_launched.Goals as goal

pub returns-in-Ok-clause-text : goal.returns-in-Ok-clause-text
returns-in-Ok-clause-text g c =
    let l = launched_view c.args.launched in
    let is : c.with_source-shown.result ≡ (opened l).debugger =
    opened_debugger c.args.launched.lending c.args.launched.compiled.verified c.verified.result.now c.args.launched.compiled.labels
    (labels_view c.labels-labels.result.now) c.args.launched.picks.items c.deref.result.now c.args.launched.source.items c.deref-in-Ok.result.now
    c.args.launched.path.bytes.items c.args.launched.counting c.in-Ok.debugger c.with_source-shown.result c.verified.ensures c.labels-labels.ensures.labels
    c.deref.ensures.value c.deref-in-Ok.ensures.value c.in-Ok.ensures.opened c.with_source-shown.ensures.shown in
    let same : c.new-session.result ≡ opened l =
    c.new-session.ensures
    ∙ (ap (λ (lines : List ℕ). record { debugger = c.with_source-shown.result; client = record { lines = lines; events = false; path = l.path; counting = l.counting }; over = false }) c.new.ensures.items
    ∙ ap (λ (d : Debugging). record { debugger = d; client = (opened l).client; over = false }) is) in
    IfSome_then (g.I.Input.rest c.args.input.now) c.answer_session.ensures.text
    (λ bytes. launched_known l c.args.first bytes c.new-session.result _ _ c.answer_session.result same
    (subst IsPosition is c.with_source-shown.ensures.placed))

pub returns-in-Ok-clause-answered : goal.returns-in-Ok-clause-answered
returns-in-Ok-clause-answered g c = λ changed.
    let l = launched_view c.args.launched in
    let is : c.with_source-shown.result ≡ (opened l).debugger =
    opened_debugger c.args.launched.lending c.args.launched.compiled.verified c.verified.result.now c.args.launched.compiled.labels
    (labels_view c.labels-labels.result.now) c.args.launched.picks.items c.deref.result.now c.args.launched.source.items c.deref-in-Ok.result.now
    c.args.launched.path.bytes.items c.args.launched.counting c.in-Ok.debugger c.with_source-shown.result c.verified.ensures c.labels-labels.ensures.labels
    c.deref.ensures.value c.deref-in-Ok.ensures.value c.in-Ok.ensures.opened c.with_source-shown.ensures.shown in
    let same : c.new-session.result ≡ opened l =
    c.new-session.ensures
    ∙ (ap (λ (lines : List ℕ). record { debugger = c.with_source-shown.result; client = record { lines = lines; events = false; path = l.path; counting = l.counting }; over = false }) c.new.ensures.items
    ∙ ap (λ (d : Debugging). record { debugger = d; client = (opened l).client; over = false }) is) in
    subst (λ (s : Debugged).
    AnswersBeforeRead (AnswersRead AnswersIn (λ s. s.over) s c.args.first) (g.I.Input.rest c.args.input.now) (g.I.Input.rest c.answer_session.new.input)
    (g.O.Output.written c.args.output.now) (g.O.Output.written c.answer_session.new.output) (g.O.Output.failures c.args.output.now)
    (g.O.Output.failures c.answer_session.new.output)) same (c.answer_session.ensures.answered changed)

pub returns-clause-answered : goal.returns-clause-answered
returns-clause-answered g c = λ changed. absurd (changed refl)

pub returns-clause-text : goal.returns-clause-text
returns-clause-text g c =
    IfSome-of (g.I.Input.rest c.args.input.now) _
    (λ bytes. no_launch (launched_view c.args.launched) c.args.first bytes (g.O.Output.written c.args.output.now))
