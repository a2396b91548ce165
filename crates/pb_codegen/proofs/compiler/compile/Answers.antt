use Rattle.std.proofs.Common.{subst}
use Rattle.std.proofs.lemmas.Result.{err_from_is_err_and}
use Rattle.pb_names.specs.View.{resolved_view}
use Rattle.pb_verifier.specs.Verified.{IsRefusedFor}
use Rattle.pb_codegen.proofs.TextOutcomes.{capital_refused, compiled, sound}
use Rattle.pb_codegen.proofs.compiler.compile.Goals as goal

pub check_capital-requires : goal.check_capital-requires
check_capital-requires g c = (c.args.text.now, c.in_ok-program.ensures.analyzed)

pub generate-requires : goal.generate-requires
generate-requires g c =
    (sound c.args.text.now (resolved_view c.in_ok-program.field-0.program) c.in_ok-program.field-0.claims
    c.in_ok-program.ensures.analyzed c.in_ok-check_capital.ensures.enough).generatable

pub verify_generated-requires : goal.verify_generated-requires
verify_generated-requires g c fault refused =
    (sound c.args.text.now (resolved_view c.in_ok-program.field-0.program) c.in_ok-program.field-0.claims
    c.in_ok-program.ensures.analyzed c.in_ok-check_capital.ensures.enough).memory_alone fault
    (subst (λ code. IsRefusedFor code fault) c.in_ok-code.ensures.code refused)

pub returns-in_err-check_capital-clause-refused : goal.returns-in_err-check_capital-clause-refused
returns-in_err-check_capital-clause-refused g c =
    let p = err_from_is_err_and c.from_residual-in_err-check_capital.result c.from_residual-in_err-check_capital.ensures.1 in
    rw (p.1, p.2)
    (capital_refused c.args.text.now _ _ _ c.in_ok-program.ensures.analyzed c.in_err-check_capital.ensures.over)

pub invariant_of-result : goal.invariant_of-result
invariant_of-result g c =
    rw (c.in_ok-verified.ensures, c.in_ok-code.ensures.code, c.in_ok-code.ensures.labels)
    ((compiled c.args.text.now (resolved_view c.in_ok-program.field-0.program) c.in_ok-program.field-0.claims
    c.in_ok-program.ensures.analyzed c.in_ok-check_capital.ensures.enough).fit)

pub returns-clause-compiled : goal.returns-clause-compiled
returns-clause-compiled g c =
    rw (c.in_ok-verified.ensures, c.in_ok-code.ensures.code, c.in_ok-code.ensures.labels)
    (compiled c.args.text.now (resolved_view c.in_ok-program.field-0.program) c.in_ok-program.field-0.claims
    c.in_ok-program.ensures.analyzed c.in_ok-check_capital.ensures.enough)
