use Rattle.std.proofs.Common.{◌≡◌, inr, sym, ap, ◌∙◌, subst}
use Rattle.pb_base.specs.Lines.{NameTable, names_view}
use Rattle.pb_debug_texts.specs.Texts.{HasNamesOf, why_text}
use Rattle.pb_debug.specs.Value.{Debugging}
use Rattle.pb_debug.proofs.NameTexts.{why_named}
use Rattle.pb_base.proofs.Results.{on_ok}
use Rattle.pb_debug.proofs.debugger.Debugger.say_reason.Goals as goal

pub put_why-requires : goal.put_why-requires
put_why-requires c =
    let d = c.args.self.now in
    let same : names_view c.names.result.now ≡ d.verified.code.names = c.names.ensures ∙ ap (λ (d : Debugging). d.verified.code.names) c.self.view_is in
    subst (λ (n : NameTable). HasNamesOf n c.in-Ok.why) (sym same)
    (why_named d c.in-Ok.ensures.placed c.args.p c.args.arm c.in-Ok.why c.in-Ok.ensures.why)

pub returns-in-Ok : goal.returns-in-Ok
returns-in-Ok c =
    let d = c.args.self.now in
    let same : names_view c.names.result.now ≡ d.verified.code.names = c.names.ensures ∙ ap (λ (d : Debugging). d.verified.code.names) c.self.view_is in
    let why = c.in-Ok.why in
    on_ok c.put_why.result _ _ c.put_why.ensures (λ e. (
      why_text (names_view c.names.result.now) why,
      inr (c.in-Ok.ensures.arm, (why, c.in-Ok.ensures.why, ap (λ (n : NameTable). why_text n why) same)),
      e,
    ))
