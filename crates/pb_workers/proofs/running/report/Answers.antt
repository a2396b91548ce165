use Rattle.std.proofs.Common.{Some, inl, sym, ◌∙◌, subst}
use Rattle.std.specs.Prelude.{Option}
use Rattle.pb_shared.specs.Ledgers.{HasOutcome}
use Rattle.pb_shared.specs.declared.outcome.Outcome.{Outcome}
use Rattle.pb_workers.proofs.BookOutcomes.{report_of}
use Rattle.pb_workers.proofs.running.report.Goals as goal

pub returns-in-Some-clause-report : goal.returns-in-Some-clause-report
returns-in-Some-clause-report g c =
    let is : HasOutcome c.args.book (Some c.in-Some.outcome) = subst (λ (o : Option Outcome). HasOutcome c.args.book
    o) c.in-Some.is c.outcome-outcome.ensures.outcome in
    report_of g.C.CodeBrand.code c.args.book _ c.args.limit c.into_trace.ensures.legal
    (sym c.limit.ensures ∙ c.if-limit.false)
    c.into_trace.ensures.entries
    is
    (λ e. c.outcome-outcome.ensures.limit (c.in-Some.is ∙ e))

pub returns-in-None-clause-fault : goal.returns-in-None-clause-fault
returns-in-None-clause-fault g c =
    inl (subst (λ (o : Option Outcome). HasOutcome c.args.book o) c.in-None.is c.outcome-outcome.ensures.outcome)
