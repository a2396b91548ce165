use Rattle.std.proofs.Common.{length, sym, ap, ◌∙◌}
use Rattle.pb_base.specs.Banker.{processes, resources}
use Rattle.pb_base.specs.Lines.{NameTable}
use Rattle.pb_verifier.specs.declared.fault.VerifyFault.TheVariants.{OutOfLimits}
use Rattle.pb_debug.specs.Value.{Debugging}
use Rattle.pb_debug.proofs.debugger.Debugger.say_loans.Goals as goal

pub put_loans-requires-clause-process_names : goal.put_loans-requires-clause-process_names
put_loans-requires-clause-process_names c =
    let limits = c.loans.ensures.placed.verified.faultless OutOfLimits in
    ap (λ (n : NameTable). length n.processes) (c.names.ensures ∙ ap (λ (d : Debugging). d.verified.code.names) c.self.view_is)
    ∙ (limits.process_names.all ∙ (sym limits.rows ∙ sym (ap processes c.loans.ensures.shown)))

pub put_loans-requires-clause-resource_names : goal.put_loans-requires-clause-resource_names
put_loans-requires-clause-resource_names c =
    let limits = c.loans.ensures.placed.verified.faultless OutOfLimits in
    ap (λ (n : NameTable). length n.resources) (c.names.ensures ∙ ap (λ (d : Debugging). d.verified.code.names) c.self.view_is)
    ∙ (limits.resource_names.all ∙ sym (ap resources c.loans.ensures.shown))
