use Rattle.std.proofs.Common.{Some, subst}
use Rattle.std.specs.Prelude.{IfOk}
use Rattle.pb_base.specs.declared.lending.Lending.{Lending}
use Rattle.pb_engines.proofs.RecordLemmas.{Answers, answered_without, any_fault_without, banker_is_asked, drawn_with, no_memory_with}
use Rattle.pb_options.specs.Lends.{lending_for}
use Rattle.pb_engines.proofs.record.record_picks.Goals as goal

pub returns-in_default-clause-picks : goal.returns-in_default-clause-picks
returns-in_default-clause-picks g c =
    answered_without (lending_for c.args.options.lend) c.args.verified.now.code c.args.options.run.steps c.args.options.seed (λ r. r.picks.items)
    (λ r. r.status) c.reported.result c.in_default.is
    (banker_is_asked c.args.options.lend (c.args.options.workers_ask_the_banker c.in_default.is)) c.reported.ensures

pub returns-in_default-clause-fault : goal.returns-in_default-clause-fault
returns-in_default-clause-fault g c = any_fault_without c.args.options.seed c.reported.result c.in_default.is

pub returns-clause-picks : goal.returns-clause-picks
returns-clause-picks g c =
    drawn_with (lending_for c.args.options.lend) c.args.verified.now.code c.args.options.run.steps c.in-Some.seed c.args.options.seed
    (λ r. r.picks.items) (λ r. r.status) c.drawn_run.result c.in-Some.is
    (subst (λ (l : Lending). IfOk c.drawn_run.result (Answers l c.args.verified.now.code c.args.options.run.steps (Some c.in-Some.seed)
    (λ r. r.picks.items) (λ r. r.status))) c.lending.ensures c.drawn_run.ensures.picks)

pub returns-clause-fault : goal.returns-clause-fault
returns-clause-fault g c = no_memory_with c.args.options.seed c.drawn_run.result c.drawn_run.ensures.fault
