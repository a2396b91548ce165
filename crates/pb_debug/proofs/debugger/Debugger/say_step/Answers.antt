use Rattle.std.proofs.Common.{◌≡◌, ◌+◌, sym, ap, ◌∙◌, subst, arith}
use Rattle.pb_base.specs.declared.step.Step.{Step}
use Rattle.pb_base.specs.Lines.{NameTable, HasNames, names_view}
use Rattle.pb_debug.specs.Answers.{SaysStep, shown_names}
use Rattle.pb_debug_texts.specs.Texts.{at_text, event_text}
use Rattle.pb_debug.specs.Value.{Debugging}
use Rattle.pb_base.proofs.Results.{on_ok}
use Rattle.pb_debug.proofs.debugger.Debugger.say_step.Goals as goal

pub overflow_add-next : goal.overflow_add-next
overflow_add-next c =
    let at = c.position-next.ensures.position in
    let within = c.position-next.ensures.placed.within in
    let few = c.position-next.ensures.placed.few in
    omega (arith, at, within, few)

pub put_event-requires : goal.put_event-requires
put_event-requires c =
    let d = c.args.self.now in
    let event = c.in-Did.event in
    let same : names_view c.names.result.now ≡ shown_names d = c.names.ensures ∙ ap (λ (d : Debugging). d.verified.code.names) c.self.view_is in
    subst (λ (n : NameTable). HasNames n event) (sym same) (c.requires.names event c.in-Did.is)

pub returns-in-Silent : goal.returns-in-Silent
returns-in-Silent c =
    let d = c.args.self.now in
    let said = at_text (c.position-next.result + 1) in
    on_ok c.put_at.result _ _ c.put_at.ensures (λ e. (
      said,
      subst (λ (s : Step). SaysStep d c.args.p c.args.arm s said) (sym c.in-Silent.is) (ap (λ n. at_text (n + 1)) c.position-next.ensures.position),
      e,
    ))

pub returns-in-Did : goal.returns-in-Did
returns-in-Did c =
    let d = c.args.self.now in
    let event = c.in-Did.event in
    let next = c.position-next.result + 1 in
    let same : names_view c.names.result.now ≡ shown_names d = c.names.ensures ∙ ap (λ (d : Debugging). d.verified.code.names) c.self.view_is in
    let said = event_text (names_view c.names.result.now) next event in
    let is : said ≡ event_text (shown_names d) (d.position + 1) event =
    ap (λ (n : NameTable). event_text n next event) same
    ∙ ap (λ i. event_text (shown_names d) (i + 1) event) c.position-next.ensures.position in
    on_ok c.put_event.result _ _ c.put_event.ensures
    (λ e. (said, subst (λ (s : Step). SaysStep d c.args.p c.args.arm s said) (sym c.in-Did.is) is, e))

pub returns-in-NotEnabled : goal.returns-in-NotEnabled
returns-in-NotEnabled c =
    let d = c.args.self.now in
    on_ok c.say_reason.result _ _ c.say_reason.ensures
    (λ s. (s.0, subst (λ (x : Step). SaysStep d c.args.p c.args.arm x s.0) (sym c.in-NotEnabled.is) s.1, s.2))
